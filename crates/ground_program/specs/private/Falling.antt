-- Levels whose priorities do not rise.
use Rattle.std.specs.Prelude.{ℤ, ◌≤ℤ◌, List, [], ◌∷◌, ⊤}
use Rattle.ground_program.specs.declared.program.Level.{Level}

-- the last priority, or where the list begins
abbrev pub lowest : ℤ → List Level → ℤ
lowest high [] = high
lowest high (level ∷ levels) = lowest level.priority levels

-- no priority is above the one before it
abbrev pub NoneRises : ℤ → List Level → Type 0
NoneRises high [] = ⊤
NoneRises high (level ∷ levels) = (level.priority ≤ℤ high) × NoneRises level.priority levels
