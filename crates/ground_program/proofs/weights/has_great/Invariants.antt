use Rattle.std.proofs.Common.{◌≡◌, drop}
use Rattle.ground_program.specs.Radix.{at_level, has_great}
use Rattle.ground_program.proofs.weights.has_great.Given as goal

abbrev pub invariant-loop-item : goal.invariant-loop-item
invariant-loop-item l =
    has_great (at_level l.below.bound l.below.base (drop l.item-index l.items))
    ≡ has_great (at_level l.below.bound l.below.base l.items)
