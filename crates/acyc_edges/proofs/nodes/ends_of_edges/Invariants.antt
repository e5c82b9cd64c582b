-- What the loop of `ends_of_edges` has done so far.
use Rattle.std.proofs.Common.{◌≡◌, map, take}
use Rattle.acyc_edges.specs.private.Nodes.{node_at, ends_of_edges}
use Rattle.acyc_edges.proofs.nodes.ends_of_edges.Given as goal

abbrev pub invariant-loop-edge : goal.invariant-loop-edge
invariant-loop-edge l = map node_at l.ends.items ≡ ends_of_edges (take l.edge-index l.edges)
