use Rattle.std.proofs.Common.{◌≡◌, ◌+◌, ◌<◌, drop}
use Rattle.ground_program.specs.Radix.{cut_weights, total}
use Rattle.ground_program.proofs.rooms.total_reaches.Given as goal

abbrev pub invariant-loop-item : goal.invariant-loop-item
invariant-loop-item l =
    (l.total < l.bound)
    × (l.total + total (cut_weights l.bound (drop l.item-index l.items))
    ≡ total (cut_weights l.bound l.items))
