-- Edges that are added to a store.
use Rattle.std.specs.Prelude.{List, [], ◌∷◌, ◌++◌}
use Rattle.clause_store.specs.Stored.{Stored}
use Rattle.clause_store.specs.declared.formula.LitEdge.{LitEdge}

-- edges behind those of a store
abbrev pub with_edges : List LitEdge → Stored → Stored
with_edges edges s = record s { edges = s.edges ++ edges }

abbrev pub with_edge : LitEdge → Stored → Stored
with_edge edge s = with_edges (edge ∷ []) s
