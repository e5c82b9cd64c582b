-- The rules of external atoms, from a list in which the settings of one atom are neighbours.
use Rattle.std.specs.Prelude.{ℕ, ◌==◌, Bool, false, cond, List, [], ◌∷◌, ◌++◌}
use Rattle.asp_base.specs.Sets.{members}
use Rattle.ground_program.specs.Draft.{external_rule}
use Rattle.ground_program.specs.declared.program.Rule.{Rule}
use Rattle.ground_program.specs.declared.builder.External.{External}

-- the first setting is of this atom
abbrev pub begins_with : ℕ → List (ℕ × External) → Bool
begins_with a [] = false
begins_with a (set ∷ sets) = set.0 == a

-- the rules of a setting whose atom is no head
abbrev pub rules_of_setting : List ℕ → ℕ × External → List Rule
rules_of_setting heads set = cond (members heads set.0) [] (external_rule set.0 set.1)

-- the rules of the last setting of each atom
abbrev pub rules_of_last : List ℕ → List (ℕ × External) → List Rule
rules_of_last heads [] = []
rules_of_last heads (set ∷ sets) =
    cond (begins_with set.0 sets) [] (rules_of_setting heads set) ++ rules_of_last heads sets
