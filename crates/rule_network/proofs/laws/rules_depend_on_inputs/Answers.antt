-- The law of what the rules of a block read.
use Rattle.rule_network.proofs.InputLaws.{block-reads}
use Rattle.rule_network.proofs.laws.rules_depend_on_inputs.Goals as goal

pub returns : goal.returns
returns c = record { reads = block-reads }
