use Rattle.std.proofs.Common.{◌≡◌, ◌+◌, ◌*◌, ◌≤◌, drop}
use Rattle.ground_program.specs.Radix.{at_level, rest_sum}
use Rattle.ground_program.proofs.weights.rest_sum.Given as goal

abbrev pub invariant-loop-item : goal.invariant-loop-item
invariant-loop-item l =
    (l.sum + rest_sum l.radix (at_level l.below.bound l.below.base (drop l.item-index l.items))
    ≡ rest_sum l.radix (at_level l.below.bound l.below.base l.items))
    × (l.sum ≤ 8 * l.item-index)
