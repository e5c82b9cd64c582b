use Rattle.std.proofs.Common.{◌≡◌, ◌==◌, drop}
use Rattle.std.specs.List.{list_all}
use Rattle.ground_program.specs.Radix.{cut_weights}
use Rattle.ground_program.proofs.rooms.are_equal.Given as goal

abbrev pub invariant-loop-item : goal.invariant-loop-item
invariant-loop-item l =
    list_all (λ item. item.1 == l.weight) (cut_weights l.bound (drop l.item-index l.items))
    ≡ list_all (λ item. item.1 == l.weight) (cut_weights l.bound l.items)
