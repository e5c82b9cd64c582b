-- Marks of the cyclic parts, by the steps that stay in a part.
use Rattle.std.specs.Prelude.{◌≡◌, ℕ, ◌+◌, ◌<◌, Bool, true, ◌==◌, List, slice_index, slice_range}
use Rattle.std.specs.List.{list_any}
use Rattle.graph_parts.specs.Divided.{is_cyclic_at}

-- a step leads from the node to one with the same number
abbrev pub steps_within : List ℕ → List ℕ → List ℕ → ℕ → Bool
steps_within starts targets numbers u =
    list_any (λ v. slice_index numbers v == slice_index numbers u)
    (slice_range targets (slice_index starts u) (slice_index starts (u + 1)))

-- marks by the steps of the nodes below a limit
pub record AreMarked (starts targets numbers : List ℕ) (limit : ℕ) (cyclic : List Bool)
    : Type 0 where
  pub sound : (i : ℕ) → is_cyclic_at cyclic i ≡ true
      → (u : ℕ) × (u < limit) × (slice_index numbers u ≡ i)
      × (steps_within starts targets numbers u ≡ true)
  pub complete : (u : ℕ) → u < limit → steps_within starts targets numbers u ≡ true
      → is_cyclic_at cyclic (slice_index numbers u) ≡ true
