use Rattle.std.proofs.Common.{take, drop}
use Rattle.std.specs.List.{AllByRecursion}
use Rattle.ground_program.specs.Facts.{Among, LiteralsFit}
use Rattle.acyc_translation.specs.private.Linked.{Linked}
use Rattle.acyc_translation.proofs.linking.add_edges.Given as goal

abbrev pub invariant-loop-edge : goal.invariant-loop-edge
invariant-loop-edge l = record {
  linked : Linked l.atoms (take l.edge-index l.edges) l.fn.store l.store;
  fit : AllByRecursion (λ edge. LiteralsFit (Among l.atoms) edge.condition) (drop l.edge-index l.edges);
}
