-- Without edges the founded sets are the stable models.
use Rattle.clause_store.specs.Stored.{formula_of_store}
use Rattle.level_ranking.specs.Encoding.{with_rankings}
use Rattle.level_ranking.proofs.RankedStore.{rankings-have_founded}
use Rattle.level_ranking.proofs.StableSets.{stable-from_ranked}
use Rattle.level_ranking.proofs.laws.rankings_have_stable_models.Goals as goal

pub returns : goal.returns
returns c = λ P program normal part parts are none. stable-from_ranked P part parts (formula_of_store (with_rankings P part parts) 1) none (rankings-have_founded P program normal part parts are)
