-- The nodes of edges, as the code numbers them.
use Rattle.std.specs.Prelude.{◌≡◌, ℕ, ◌≤◌, ◌^◌, ℤ, pos, neg_ℤ, ◌+ℤ◌, List, [], ◌∷◌, map, length}
use Rattle.std.specs.List.{filter, flat_map}
use Rattle.ground_program.specs.Ground.{Ground}
use Rattle.ground_program.specs.declared.program.Edge.{Edge}
use Rattle.acyc_edges.specs.Encoding.{is_cyclic, nodes_of}
use Rattle.acyc_edges.specs.declared.nodes.Nodes.{Nodes}

-- the node that a number stands for, which is 2^31 higher
abbrev pub node_at : ℕ → ℤ
node_at n = pos n +ℤ neg_ℤ (pos (2 ^ 31))

abbrev pub ends_of_edges : List Edge → List ℤ
ends_of_edges edges = flat_map (λ edge. edge.from ∷ edge.to ∷ []) edges

-- the nodes of the program's edges, and the atoms of cyclic components, whose nodes come behind
pub record AreNodes (P : Ground) (part : ℕ → ℕ) (parts : List ℕ) (nodes : Nodes)
    : Type 0 where
  pub given : map node_at nodes.given ≡ nodes_of P.edges
  pub few : length nodes.given ≤ 2 ^ 26
  pub cyclic : nodes.cyclic ≡ filter (is_cyclic P part parts) P.atoms
  pub cyclic_few : length nodes.cyclic ≤ 2 ^ 30
