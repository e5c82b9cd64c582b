-- The edges of a formula that an assignment puts there.
use Rattle.std.specs.Prelude.{ℤ, List, map}
use Rattle.std.specs.List.{filter}
use Rattle.asp_base.specs.Sets.{Set}
use Rattle.clause_store.specs.Models.{is_true}
use Rattle.clause_store.specs.declared.formula.LitEdge.{LitEdge}

-- the ends of the edges whose literal is true
abbrev pub ends_of : List LitEdge → Set → List (ℤ × ℤ)
ends_of edges A = map (λ edge. (edge.from, edge.to)) (filter (λ edge. is_true edge.lit A) edges)
