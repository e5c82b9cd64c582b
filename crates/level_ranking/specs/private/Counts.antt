-- How many variables and clauses the rules of an atom add, where its component has numbers of w
-- digits.
use Rattle.std.specs.Prelude.{ℕ, ◌+◌, ◌*◌, List, [], ◌∷◌, length}
use Rattle.ground_program.specs.Ground.{Ground}
use Rattle.digit_gates.specs.DigitGates.{less_vars}
use Rattle.level_ranking.specs.Components.{atoms_of_part}
use Rattle.level_ranking.specs.Encoding.{Row, part_width, rows_at}

abbrev pub support_vars : ℕ → List Row → ℕ
support_vars w [] = 0
support_vars w (row ∷ rows) = (less_vars w * length row.inside + 1) + support_vars w rows

abbrev pub support_clauses : ℕ → List Row → ℕ
support_clauses w [] = 0
support_clauses w (row ∷ rows) =
    (7 * w * length row.inside + (length row.inside + 2)) + support_clauses w rows

abbrev pub near_vars : ℕ → List Row → ℕ
near_vars w [] = 0
near_vars w (row ∷ rows) = less_vars w * length row.inside + near_vars w rows

abbrev pub near_clauses : ℕ → List Row → ℕ
near_clauses w [] = 0
near_clauses w (row ∷ rows) = (7 * w * length row.inside + (w + 1)) + near_clauses w rows

abbrev pub atom_vars : ℕ → List Row → ℕ
atom_vars w rows = 2 * w + (support_vars w rows + near_vars w rows)

abbrev pub atom_clauses : ℕ → List Row → ℕ
atom_clauses w rows = 7 * w + ((support_clauses w rows + 1) + near_clauses w rows)

abbrev pub atoms_vars : ℕ → (ℕ → List Row) → List ℕ → ℕ
atoms_vars w rows [] = 0
atoms_vars w rows (a ∷ atoms) = atom_vars w (rows a) + atoms_vars w rows atoms

abbrev pub atoms_clauses : ℕ → (ℕ → List Row) → List ℕ → ℕ
atoms_clauses w rows [] = 0
atoms_clauses w rows (a ∷ atoms) = atom_clauses w (rows a) + atoms_clauses w rows atoms

module _ (P : Ground) (part : ℕ → ℕ) (parts : List ℕ) where
  -- how many variables and clauses the components add
  abbrev pub parts_vars : List ℕ → ℕ
  parts_vars [] = 0
  parts_vars (c ∷ cs) =
      atoms_vars (part_width P part parts c) (rows_at P part parts c)
      (atoms_of_part part c P.atoms) + parts_vars cs

  abbrev pub parts_clauses : List ℕ → ℕ
  parts_clauses [] = 0
  parts_clauses (c ∷ cs) =
      atoms_clauses (part_width P part parts c) (rows_at P part parts c)
      (atoms_of_part part c P.atoms) + parts_clauses cs
