-- The sum over the components so far.
use Rattle.std.proofs.Common.{◌≡◌, ◌^◌, min}
use Rattle.std.specs.List.{range_with_len, sum_by}
use Rattle.components.specs.private.Measured.{tangle_kept}
use Rattle.components.proofs.parts.Parts.tangle_in_all.Given as goal

abbrev pub invariant-loop-k : goal.invariant-loop-k
invariant-loop-k l = l.total ≡ min (sum_by (tangle_kept l.self) (range_with_len 1 l.k)) (2 ^ 63)
