-- A WCNF text that is written is read as the same formula.
use Rattle.dimacs_format.proofs.WcnfRoundTrip.{wcnf-read}
use Rattle.dimacs_format.proofs.laws.wcnf_texts_are_read_back.Goals as goal

pub returns : goal.returns
returns c = wcnf-read
