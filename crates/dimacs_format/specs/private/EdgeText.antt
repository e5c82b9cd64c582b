-- The line of an edge up to its literal.
use Rattle.std.specs.Prelude.{ℕ, List, [], ◌∷◌, ◌++◌, codes}
use Rattle.std.specs.Fmt.{signed_decimal}
use Rattle.clause_store.specs.declared.formula.LitEdge.{LitEdge}

abbrev pub nodes_text : LitEdge → List ℕ
nodes_text edge =
    codes "e " ++ (signed_decimal edge.from ++ (32 ∷ (signed_decimal edge.to ++ (32 ∷ []))))
