-- What the rankings of a program are made from: the digits of its atoms, and its rules by their
-- heads.
use Rattle.std.specs.Prelude.{◌≡◌, ℕ, ◌+◌, ◌-◌, ◌≤◌, ◌^◌, Bool, true, cond, List, [], ◌∷◌, ◌++◌, map, length, drop, Option}
use Rattle.asp_base.specs.Literal.{Literal}
use Rattle.asp_base.specs.Sets.{Set, members}
use Rattle.rising_numbers.specs.Rising.{RisesFrom, place}
use Rattle.ground_program.specs.Digits.{digits}
use Rattle.ground_program.specs.Ground.{Ground}
use Rattle.ground_program.specs.declared.program.Rule.{Rule}
use Rattle.components.specs.Divided.{Divided, cyclic_numbers, part_of}
use Rattle.clause_store.specs.Stored.{Stored}
use Rattle.digit_gates.specs.DigitGates.{variables_from}
use Rattle.level_ranking.specs.Components.{atoms_of_part, component}
use Rattle.level_ranking.specs.Encoding.{Row, inside, part_width, digits_at, rows_at, with_digits}

-- ---- components

abbrev pub is_ranked : Divided → ℕ → Bool
is_ranked d a = members (cyclic_numbers d) (part_of d a)

-- how many digits the number of an atom has
abbrev pub width_among : Divided → List ℕ → ℕ → ℕ
width_among d atoms a = digits (length (atoms_of_part (part_of d) (part_of d a) atoms))

-- the atoms rise, and the numbers of their components run from 1 to the count
pub record AreNumbered (d : Divided) : Type 0 where
  pub rise : RisesFrom 0 d.atoms
  pub few : length d.atoms ≤ 2 ^ 30
  pub least : (a : ℕ) → members d.atoms a ≡ true → 1 ≤ part_of d a
  pub most : (a : ℕ) → members d.atoms a ≡ true → part_of d a ≤ d.count

-- ---- digits

-- the digits of each atom, none where it is not ranked; the first has the variable after n
abbrev pub digit_table : (ℕ → Bool) → (ℕ → ℕ) → List ℕ → ℕ → List (List Literal)
digit_table ranked width [] n = []
digit_table ranked width (a ∷ atoms) n =
    cond (ranked a) (variables_from (width a) n) []
    ∷ digit_table ranked width atoms (n + cond (ranked a) (width a) 0)

-- ---- rules by their heads

-- the first of these rules, as a rule of an atom of the component
abbrev pub first_row : Set → List Rule → List (Option Literal) → List Row
first_row S [] bodies = []
first_row S (rule ∷ rules) [] = []
first_row S (rule ∷ rules) (body ∷ bodies) =
    record { body = body; inside = inside S rule } ∷ []

-- the rules at these places
abbrev pub rows_listed : Set → List Rule → List (Option Literal) → List ℕ → List Row
rows_listed S rules bodies [] = []
rows_listed S rules bodies (i ∷ places) =
    first_row S (drop i rules) (drop i bodies) ++ rows_listed S rules bodies places

-- a rule with the places of its atoms inside, from 0, in their stead
abbrev pub placed : List ℕ → Row → Row
placed atoms row =
    record { body = row.body; inside = map (λ b. place atoms b - 1) row.inside }

-- with a number behind the others, where it is not among them
abbrev pub with_once : ℕ → List ℕ → List ℕ
with_once x xs = cond (members xs x) xs (xs ++ (x ∷ []))

-- ---- as the components are found

-- the digits of each atom, and the rules of each atom of a component
abbrev pub ranking_digits : Ground → Divided → ℕ → List Literal
ranking_digits P d = digits_at P (part_of d) (cyclic_numbers d)

abbrev pub ranking_rows : Ground → Divided → ℕ → ℕ → List Row
ranking_rows P d c = rows_at P (part_of d) (cyclic_numbers d) c

abbrev pub ranking_width : Ground → Divided → ℕ → ℕ
ranking_width P d c = part_width P (part_of d) (cyclic_numbers d) c

abbrev pub ranking_base : Ground → Divided → Stored
ranking_base P d = with_digits P (part_of d) (cyclic_numbers d)

abbrev pub in_component : Ground → Divided → ℕ → ℕ → Bool
in_component P d c a = component P (part_of d) c a

abbrev pub atoms_in : Ground → Divided → ℕ → List ℕ
atoms_in P d c = atoms_of_part (part_of d) c P.atoms
