use Rattle.std.proofs.Common.{◌≡◌, ◌==◌, drop}
use Rattle.std.specs.List.{list_all}
use Rattle.weight_rules.proofs.kept.are_equal.Given as goal

abbrev pub invariant-loop-item : goal.invariant-loop-item
invariant-loop-item l =
    list_all (λ item. item.1 == l.weight) (drop l.item-index l.items)
    ≡ list_all (λ item. item.1 == l.weight) l.items
