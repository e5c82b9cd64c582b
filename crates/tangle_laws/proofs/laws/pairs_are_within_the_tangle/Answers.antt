-- The law is a lemma.
use Rattle.tangle_laws.proofs.TangleLaws.{pairs-within_tangle}
use Rattle.tangle_laws.proofs.laws.pairs_are_within_the_tangle.Goals as goal

pub returns : goal.returns
returns c = pairs-within_tangle
