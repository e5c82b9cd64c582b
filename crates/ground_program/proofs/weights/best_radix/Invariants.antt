use Rattle.std.proofs.Common.{◌≡◌}
use Rattle.ground_program.specs.Radix.{at_level, rest_sum}
use Rattle.ground_program.specs.private.Levels.{best_of}
use Rattle.ground_program.proofs.weights.best_radix.Given as goal

abbrev pub invariant-loop-step : goal.invariant-loop-step
invariant-loop-step l =
    (l.best.radix ≡ best_of l.step (at_level l.below.bound l.below.base l.items))
    × (l.best.sum ≡ rest_sum l.best.radix (at_level l.below.bound l.below.base l.items))
