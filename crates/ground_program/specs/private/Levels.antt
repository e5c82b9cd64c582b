-- Levels of weights, as the loops over them need them.
use Rattle.std.specs.Prelude.{ℕ, zero, suc, ◌+◌, ◌<◌, ◌≤◌, List}
use Rattle.std.specs.List.{AllByRecursion}
use Rattle.asp_base.specs.Literal.{Literal}
use Rattle.ground_program.specs.Radix.{better}

abbrev pub AllBelow : ℕ → List (Literal × ℕ) → Type 0
AllBelow n items = AllByRecursion (λ item. item.1 < n) items

-- weights from 1 to the bound
abbrev pub AreCut : ℕ → List (Literal × ℕ) → Type 0
AreCut bound items = AllByRecursion (λ item. (0 < item.1) × (item.1 ≤ bound)) items

-- the best of 2 and so many radices above it
abbrev pub best_of : ℕ → List (Literal × ℕ) → ℕ
best_of zero items = 2
best_of (suc n) items = better items (best_of n items) (n + 3)
