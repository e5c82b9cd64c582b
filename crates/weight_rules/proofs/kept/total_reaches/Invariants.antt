use Rattle.std.proofs.Common.{◌≡◌, ◌<◌, ◌+◌, drop}
use Rattle.ground_program.specs.Radix.{total}
use Rattle.ground_program.specs.private.Levels.{AreCut}
use Rattle.weight_rules.proofs.kept.total_reaches.Given as goal

abbrev pub invariant-loop-item : goal.invariant-loop-item
invariant-loop-item l =
    (l.total < l.bound) × (l.total + total (drop l.item-index l.items) ≡ total l.items)
    × AreCut l.bound (drop l.item-index l.items)
