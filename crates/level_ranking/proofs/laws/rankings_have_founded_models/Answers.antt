-- The models of the completion with rankings are the founded sets.
use Rattle.level_ranking.proofs.RankedStore.{rankings-have_founded}
use Rattle.level_ranking.proofs.laws.rankings_have_founded_models.Goals as goal

pub returns : goal.returns
returns c = rankings-have_founded
