use Rattle.std.proofs.Common.{◌≡◌, ◌+◌, ◌^◌, min, length, take}
use Rattle.std.specs.List.{sum_by}
use Rattle.ground_program.proofs.measure.levels_size.Given as goal

abbrev pub invariant-loop-level : goal.invariant-loop-level
invariant-loop-level l = l.total ≡ min (sum_by (λ level. 1 + length level.items) (take l.level-index l.levels)) (2 ^ 63)
