use Rattle.std.proofs.Common.{◌≡◌, ◌++◌, drop}
use Rattle.weight_rules.specs.private.Levels.{rest_lits}
use Rattle.weight_rules.proofs.lists.level_list.Given as goal

abbrev pub invariant-loop-item : goal.invariant-loop-item
invariant-loop-item l =
    l.list ++ rest_lits l.radix (drop l.item-index l.items) ≡ rest_lits l.radix l.items
