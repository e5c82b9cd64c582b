-- The text of a program is read as its lowered form.
use Rattle.smodels_format.proofs.TextFit.{smodels-read}
use Rattle.smodels_format.proofs.laws.smodels_texts_are_read_back.Goals as goal

pub returns : goal.returns
returns c = smodels-read
