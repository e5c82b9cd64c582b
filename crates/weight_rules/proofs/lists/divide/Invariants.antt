use Rattle.std.proofs.Common.{◌≡◌, ◌++◌, take, drop}
use Rattle.ground_program.specs.Radix.{divided}
use Rattle.weight_rules.proofs.lists.divide.Given as goal

abbrev pub invariant-loop-item : goal.invariant-loop-item
invariant-loop-item l =
    l.items ≡ divided l.radix (take l.item-index l.fn.items) ++ drop l.item-index l.fn.items
