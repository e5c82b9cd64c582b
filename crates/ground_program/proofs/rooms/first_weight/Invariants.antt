use Rattle.std.proofs.Common.{◌≡◌, drop}
use Rattle.ground_program.specs.Radix.{cut_weights}
use Rattle.ground_program.specs.Room.{first_weight}
use Rattle.ground_program.proofs.rooms.first_weight.Given as goal

abbrev pub invariant-loop-item : goal.invariant-loop-item
invariant-loop-item l =
    first_weight (cut_weights l.bound (drop l.item-index l.items))
    ≡ first_weight (cut_weights l.bound l.items)
