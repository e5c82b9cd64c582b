use Rattle.std.proofs.Common.{◌≡◌, ◌+◌, ◌^◌, min, length, take}
use Rattle.std.specs.List.{sum_by}
use Rattle.ground_program.proofs.measure.edges_size.Given as goal

abbrev pub invariant-loop-edge : goal.invariant-loop-edge
invariant-loop-edge l = l.total ≡ min (sum_by (λ edge. 1 + length edge.condition) (take l.edge-index l.edges)) (2 ^ 63)
