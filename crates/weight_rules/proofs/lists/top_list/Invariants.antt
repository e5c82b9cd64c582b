use Rattle.std.proofs.Common.{◌≡◌, ◌++◌, drop}
use Rattle.weight_rules.specs.private.Levels.{all_lits}
use Rattle.weight_rules.proofs.lists.top_list.Given as goal

abbrev pub invariant-loop-item : goal.invariant-loop-item
invariant-loop-item l = l.list ++ all_lits (drop l.item-index l.items) ≡ all_lits l.items
