-- Numbers that are numbered anew without gaps.
use Rattle.std.specs.Prelude.{◌≡◌, ℕ, ◌+◌, ◌<◌, ◌≤◌, ◌↔◌, Bool, List, length, sum, take, slice_index}
use Rattle.graph_parts.specs.Divided.{is_cyclic_at}

-- a one at each of these numbers, and zeros elsewhere
pub record AreUsed (numbers used : List ℕ) : Type 0 where
  pub bits : (i : ℕ) → slice_index used i ≤ 1
  pub all : (u : ℕ) → u < length numbers → slice_index used (slice_index numbers u) ≡ 1
  pub only : (i : ℕ) → slice_index used i ≡ 1
      → (u : ℕ) × (u < length numbers) × (slice_index numbers u ≡ i)

-- how many numbers up to this one are used
abbrev pub rank_of : List ℕ → ℕ → ℕ
rank_of used i = sum (take (i + 1) used)

-- each number's rank in its place
pub record AreRanked (numbers used ranked : List ℕ) : Type 0 where
  pub sized : length ranked ≡ length numbers
  pub each : (u : ℕ) → u < length numbers
      → slice_index ranked u ≡ rank_of used (slice_index numbers u)

-- the same ranks are of the same numbers
abbrev pub SameBySame : List ℕ → List ℕ → Type 0
SameBySame numbers ranked =
    (u v : ℕ) → u < length numbers → v < length numbers
    → slice_index ranked u ≡ slice_index ranked v → slice_index numbers u ≡ slice_index numbers v

-- what is marked at a number is marked at its rank
abbrev pub AreMoved : List ℕ → List ℕ → List Bool → ℕ → List Bool → Type 0
AreMoved numbers ranked cyclic limit moved =
    (u : ℕ) → u < limit
    → is_cyclic_at moved (slice_index ranked u) ≡ is_cyclic_at cyclic (slice_index numbers u)

-- numbers that say which of those are the same and which are higher, from 1 to the count without
-- gaps
pub record AreRanks (numbers ranked : List ℕ) (count : ℕ) : Type 0 where
  pub sized : length ranked ≡ length numbers
  pub same : (u v : ℕ) → u < length numbers → v < length numbers
      → (slice_index ranked u ≡ slice_index ranked v)
      ↔ (slice_index numbers u ≡ slice_index numbers v)
  pub up : (u v : ℕ) → u < length numbers → v < length numbers
      → slice_index numbers u ≤ slice_index numbers v → slice_index ranked u ≤ slice_index ranked v
  pub least : (u : ℕ) → u < length numbers → 1 ≤ slice_index ranked u
  pub most : (u : ℕ) → u < length numbers → slice_index ranked u ≤ count
  pub each : (i : ℕ) → 1 ≤ i → i ≤ count
      → (u : ℕ) × (u < length numbers) × (slice_index ranked u ≡ i)
