-- The marks of the nodes so far stand at their ranks.
use Rattle.std.proofs.Common.{◌≡◌, ◌+◌, length}
use Rattle.graph_parts.specs.private.Ranks.{AreMoved}
use Rattle.graph_parts.proofs.among.moved.Given as goal

abbrev pub invariant-loop-node : goal.invariant-loop-node
invariant-loop-node l = record {
  moved : AreMoved l.numbers l.ranked l.all.cyclic l.node l.cyclic.items;
  sized : length l.cyclic.items ≡ l.count + 1;
}
