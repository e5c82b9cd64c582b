use Rattle.std.proofs.Common.{◌≡◌, ◌+◌, ◌≤◌, drop, length}
use Rattle.ground_program.specs.Radix.{cut_weights}
use Rattle.ground_program.proofs.rooms.number_of_weights.Given as goal

abbrev pub invariant-loop-item : goal.invariant-loop-item
invariant-loop-item l =
    (l.number + length (cut_weights l.bound (drop l.item-index l.items))
    ≡ length (cut_weights l.bound l.items))
    × (l.number ≤ l.item-index)
