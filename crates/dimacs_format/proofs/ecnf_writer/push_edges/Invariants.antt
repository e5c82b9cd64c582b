-- The lines of the edges so far are written, and their nodes have 32 bits.
use Rattle.std.proofs.Common.{◌≡◌, ◌++◌, take}
use Rattle.std.specs.List.{AllByRecursion}
use Rattle.dimacs_format.specs.Read.{HasNodes}
use Rattle.dimacs_format.specs.Written.{edge_lines}
use Rattle.dimacs_format.proofs.ecnf_writer.push_edges.Given as goal

abbrev pub invariant-loop-edge : goal.invariant-loop-edge
invariant-loop-edge l = record {
  lines : l.out.items ≡ l.fn.out.items ++ edge_lines (take l.edge-index l.edges);
  nodes : AllByRecursion HasNodes (take l.edge-index l.edges);
}
