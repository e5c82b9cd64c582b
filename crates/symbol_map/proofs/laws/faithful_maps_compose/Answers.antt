use Rattle.symbol_map.proofs.ComposeMap.{CoversMap-compose, FaithfulMap-compose}
use Rattle.symbol_map.proofs.laws.faithful_maps_compose.Goals as goal

pub returns-clause-covers : goal.returns-clause-covers
returns-clause-covers c = CoversMap-compose

pub returns-clause-faithful : goal.returns-clause-faithful
returns-clause-faithful c = FaithfulMap-compose
