use Rattle.std.proofs.Common.{◌≡◌, ◌++◌, drop}
use Rattle.std.specs.List.{flat_map}
use Rattle.ground_program.specs.Occurrences.{atoms_of_literals}
use Rattle.ground_program.proofs.gather.push_edges.Given as goal

abbrev pub invariant-loop-edge : goal.invariant-loop-edge
invariant-loop-edge l = l.out.items ++ flat_map (λ edge. atoms_of_literals edge.condition) (drop l.edge-index l.edges) ≡ l.initial.out.items ++ flat_map (λ edge. atoms_of_literals edge.condition) l.edges
