-- The counts, component by component.
use Rattle.level_ranking.proofs.BoundOfParts.{adds-by_parts}
use Rattle.level_ranking.proofs.laws.rankings_are_small_by_components.Goals as goal

pub returns : goal.returns
returns c = λ P program normal part parts are. adds-by_parts P program normal part parts are
