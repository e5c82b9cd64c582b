-- The strongly connected components of a directed graph, the parts for short.
use Rattle.std.specs.Prelude.{◌≡◌, ℕ, ◌<◌, ◌≤◌, ◌⊎◌, ◌↔◌, Bool, true, List, length, slice_index}
use Rattle.asp_base.specs.Walks.{Reaches}

-- two nodes of one part: they are equal, or each reaches the other
abbrev pub Together : {N : Type 0} → (N → N → Bool) → N → N → Type 0
Together step u v = (u ≡ v) ⊎ (Reaches step u v × Reaches step v u)

-- Numbers of the nodes' parts, from 1 to the count without gaps. A step never leads to a higher
-- number.
pub record AreParts (step : ℕ → ℕ → Bool) (numbers : List ℕ) (count : ℕ) : Type 0 where
  pub together : (u v : ℕ) → u < length numbers → v < length numbers
      → (slice_index numbers u ≡ slice_index numbers v) ↔ Together step u v
  pub lower : (u v : ℕ) → step u v ≡ true → slice_index numbers v ≤ slice_index numbers u
  pub least : (u : ℕ) → u < length numbers → 1 ≤ slice_index numbers u
  pub most : (u : ℕ) → u < length numbers → slice_index numbers u ≤ count
  pub each : (i : ℕ) → 1 ≤ i → i ≤ count
      → (u : ℕ) × (u < length numbers) × (slice_index numbers u ≡ i)

-- The same of the first nodes of a graph, which may reach each other by way of the others.
pub record ArePartsAmong (step : ℕ → ℕ → Bool) (numbers : List ℕ) (count : ℕ) : Type 0 where
  pub together : (u v : ℕ) → u < length numbers → v < length numbers
      → (slice_index numbers u ≡ slice_index numbers v) ↔ Together step u v
  pub lower : (u v : ℕ) → u < length numbers → v < length numbers → Reaches step u v
      → slice_index numbers v ≤ slice_index numbers u
  pub least : (u : ℕ) → u < length numbers → 1 ≤ slice_index numbers u
  pub most : (u : ℕ) → u < length numbers → slice_index numbers u ≤ count
  pub each : (i : ℕ) → 1 ≤ i → i ≤ count
      → (u : ℕ) × (u < length numbers) × (slice_index numbers u ≡ i)
