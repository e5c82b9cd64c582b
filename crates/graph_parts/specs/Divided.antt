-- A graph that is divided into its parts, as contracts see it.
use Rattle.std.specs.Prelude.{◌≡◌, ℕ, ◌<◌, ◌↔◌, Bool, true, false, List, length, slice_index, slice_index_or}
use Rattle.asp_base.specs.Walks.{Reaches}

-- the number of each node's part, how many parts there are, and which of them are cyclic
pub record Divided : Type 0 where
  pub numbers : List ℕ
  pub count : ℕ
  pub cyclic : List Bool

-- whether the part with a number is cyclic
abbrev pub is_cyclic_at : List Bool → ℕ → Bool
is_cyclic_at cyclic number = slice_index_or cyclic number false

-- a part is cyclic where its nodes reach themselves
pub record AreCycles (step : ℕ → ℕ → Bool) (numbers : List ℕ) (cyclic : List Bool) : Type 0 where
  pub each : (u : ℕ) → u < length numbers
      → (is_cyclic_at cyclic (slice_index numbers u) ≡ true) ↔ Reaches step u u
