-- What the fields of a network stand for.
use Rattle.std.specs.Prelude.{ℕ, List, Option, Some, None}
use Rattle.std.specs.Borrow.{Bor}
use Rattle.ground_program.specs.Dependencies.{positives_of_body}
use Rattle.ground_program.specs.declared.program.Body.{Body}
use Rattle.rule_network.specs.Block.{Block}
use Rattle.rule_network.specs.declared.network.Network.TheInside.{Inside}

-- the inputs of a network for a body are its positive atoms
abbrev pub inputs_of : Option (Bor Body) → Option (List ℕ)
inputs_of None = None
inputs_of (Some body) = Some (positives_of_body body.now)

abbrev pub block_of : Inside → Block
block_of n = record {
  supply = n.fresh;
  made = n.made.items;
  rules = n.rules;
  inputs = inputs_of n.body;
}
