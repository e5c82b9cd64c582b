use Rattle.std.proofs.Common.{◌≡◌, ◌++◌, drop}
use Rattle.ground_program.specs.Radix.{cut_weights}
use Rattle.weight_rules.proofs.kept.kept_items.Given as goal

abbrev pub invariant-loop-item : goal.invariant-loop-item
invariant-loop-item l =
    l.kept.items ++ cut_weights l.bound (drop l.item-index l.items) ≡ cut_weights l.bound l.items
