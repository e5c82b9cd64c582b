-- The positive dependencies of a program: an atom depends on each atom that stands positive in the
-- body of a rule with it in the head, whatever the kinds of head and body.
use Rattle.std.specs.Prelude.{ℕ, ℤ, Bool, ◌&&◌, List, [], ◌∷◌}
use Rattle.std.specs.List.{list_any}
use Rattle.asp_base.specs.Literal.{Literal, Pos, Neg}
use Rattle.asp_base.specs.Sets.{members}
use Rattle.ground_program.specs.Occurrences.{atoms_of_head}
use Rattle.ground_program.specs.declared.program.Body.{Body}
use Rattle.ground_program.specs.declared.program.Body.TheVariants.{All, Sum}
use Rattle.ground_program.specs.declared.program.Rule.{Rule}

-- the atom of a literal in front of those atoms, if it is positive
abbrev pub with_positive : Literal → List ℕ → List ℕ
with_positive (Pos a) atoms = a ∷ atoms
with_positive (Neg a) atoms = atoms

abbrev pub positives_of_literals : List Literal → List ℕ
positives_of_literals [] = []
positives_of_literals (lit ∷ lits) = with_positive lit (positives_of_literals lits)

abbrev pub positives_of_items : List (Literal × ℤ) → List ℕ
positives_of_items [] = []
positives_of_items (item ∷ items) = with_positive item.0 (positives_of_items items)

-- the positive atoms of a body, as often as they stand there
abbrev pub positives_of_body : Body → List ℕ
positives_of_body (All lits) = positives_of_literals lits
positives_of_body (Sum bound items) = positives_of_items items

abbrev pub depends : List Rule → ℕ → ℕ → Bool
depends rules a b =
    list_any (λ rule.
    members (atoms_of_head rule.head) a && members (positives_of_body rule.body) b) rules
