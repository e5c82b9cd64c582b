-- What the list of a program's atoms keeps.
use Rattle.std.specs.Prelude.{ℕ, ◌≤◌, ◌^◌, List}
use Rattle.std.specs.List.{AllByRecursion}
use Rattle.rising_numbers.specs.Rising.{RisesFrom}

pub record AreAtoms (atoms : List ℕ) : Type 0 where
  pub rise : RisesFrom 0 atoms
  pub fit : AllByRecursion (λ a. a ≤ 2 ^ 30) atoms
