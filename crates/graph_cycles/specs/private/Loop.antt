-- A closed walk before it is turned to its least node.
use Rattle.std.specs.Prelude.{◌≡◌, ℤ, Bool, List, ◌∷◌}
use Rattle.std.specs.List.{IsDistinct}
use Rattle.std.specs.Ordering.{int_eq}
use Rattle.asp_base.specs.Walks.{IsWalk}

-- nodes that differ, each with an edge to the next one, and the last one with an edge to the first
pub record IsLoop (step : ℤ → ℤ → Bool) (nodes : List ℤ) : Type 0 where
  pub start : ℤ
  pub by : List ℤ
  pub are : nodes ≡ start ∷ by
  pub steps : IsWalk step start by start
  pub differ : IsDistinct int_eq nodes
