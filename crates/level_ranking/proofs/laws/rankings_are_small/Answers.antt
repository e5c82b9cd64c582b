-- The counts, over all atoms and rules.
use Rattle.level_ranking.proofs.SizeOfRankings.{rankings-few}
use Rattle.level_ranking.proofs.laws.rankings_are_small.Goals as goal

pub returns : goal.returns
returns c = rankings-few
