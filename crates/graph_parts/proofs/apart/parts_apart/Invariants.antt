-- The nodes so far have the numbers from 1 on.
use Rattle.std.proofs.Common.{◌≡◌, suc, map}
use Rattle.std.specs.List.{range_with_len}
use Rattle.graph_parts.proofs.apart.parts_apart.Given as goal

abbrev pub invariant-loop-node : goal.invariant-loop-node
invariant-loop-node l = l.numbers.items ≡ map suc (range_with_len 0 l.node)
