-- A CNF text that is written is read as the same formula.
use Rattle.dimacs_format.proofs.CnfRoundTrip.{cnf-read}
use Rattle.dimacs_format.proofs.laws.cnf_texts_are_read_back.Goals as goal

pub returns : goal.returns
returns c = cnf-read
