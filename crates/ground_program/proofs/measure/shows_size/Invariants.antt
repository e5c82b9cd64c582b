use Rattle.std.proofs.Common.{◌≡◌, ◌+◌, ◌^◌, min, length, take}
use Rattle.std.specs.List.{sum_by}
use Rattle.ground_program.proofs.measure.shows_size.Given as goal

abbrev pub invariant-loop-show : goal.invariant-loop-show
invariant-loop-show l = l.total ≡ min (sum_by (λ show. 1 + length show.condition) (take l.show-index l.shows)) (2 ^ 63)
