-- The marks by the steps of the nodes so far.
use Rattle.std.proofs.Common.{◌≡◌, ◌+◌, length}
use Rattle.graph_parts.specs.private.Marks.{AreMarked}
use Rattle.graph_parts.proofs.dividing.cyclic_parts.Given as goal

abbrev pub invariant-loop-node : goal.invariant-loop-node
invariant-loop-node l = record {
  marked : AreMarked l.starts l.targets l.numbers l.node l.cyclic.items;
  sized : length l.cyclic.items ≡ l.count + 1;
}
