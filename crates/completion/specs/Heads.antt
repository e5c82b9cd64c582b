-- The places of heads among the atoms, each with the place of its rule.
use Rattle.std.specs.Prelude.{ℕ, suc, ◌-◌, List, [], ◌∷◌, ◌++◌}
use Rattle.rising_numbers.specs.Rising.{place}
use Rattle.ground_program.specs.declared.program.Head.{Head}
use Rattle.ground_program.specs.declared.program.Head.TheVariants.{Nothing, One, Choice}
use Rattle.ground_program.specs.declared.program.Rule.{Rule}

-- the place of a head among the atoms, from 0, and that of its rule
abbrev pub head_pairs : List ℕ → Head → ℕ → List (ℕ × ℕ)
head_pairs atoms Nothing i = []
head_pairs atoms (One a) i = (place atoms a - 1, i) ∷ []
head_pairs atoms (Choice as_) i = []

-- the first rule has the place i
abbrev pub heads_from : List ℕ → ℕ → List Rule → List (ℕ × ℕ)
heads_from atoms i [] = []
heads_from atoms i (rule ∷ rules) =
    head_pairs atoms rule.head i ++ heads_from atoms (suc i) rules
