use Rattle.aspif_format.proofs.AspifRoundTrip.{aspif-read}
use Rattle.aspif_format.proofs.laws.aspif_texts_are_read_back.Goals as goal

pub returns : goal.returns
returns c = aspif-read
