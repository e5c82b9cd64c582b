-- Cycles of a directed graph whose nodes are numbers.
use Rattle.std.specs.Prelude.{◌≡◌, ℤ, ◌≤ℤ◌, Bool, ◌&&◌, List, [], ◌∷◌, ◌++◌}
use Rattle.std.specs.List.{list_any, AllByRecursion, IsDistinct}
use Rattle.std.specs.Ordering.{int_eq}
use Rattle.asp_base.specs.Walks.{IsWalk}

-- one of the edges leads from u to v
abbrev pub leads : List (ℤ × ℤ) → ℤ → ℤ → Bool
leads edges u v = list_any (λ edge. int_eq edge.0 u && int_eq edge.1 v) edges

-- a closed walk: its nodes differ but for the ends, and it starts at its least node
pub record IsCycle (step : ℤ → ℤ → Bool) (walk : List ℤ) : Type 0 where
  pub start : ℤ
  pub by : List ℤ
  pub closed : walk ≡ start ∷ (by ++ (start ∷ []))
  pub steps : IsWalk step start by start
  pub differ : IsDistinct int_eq (start ∷ by)
  pub least : AllByRecursion (λ node. start ≤ℤ node) by
