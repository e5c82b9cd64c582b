-- An ECNF text that is written is read as the same formula.
use Rattle.dimacs_format.proofs.EcnfRoundTrip.{ecnf-read}
use Rattle.dimacs_format.proofs.laws.ecnf_texts_are_read_back.Goals as goal

pub returns : goal.returns
returns c = ecnf-read
