use Rattle.symbol_map.proofs.ScaleLaws.{joined_cost-weights}
use Rattle.symbol_map.proofs.laws.joined_costs_are_of_weights_alone.Goals as goal

pub returns : goal.returns
returns c = joined_cost-weights
