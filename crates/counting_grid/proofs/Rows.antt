-- Rows of a grid by computation: at least two of three literals.
use Rattle.std.proofs.Common.{◌≡◌, refl, true, false, [], ◌∷◌}
use Rattle.counting_grid.specs.private.Rows.{next_values, row_low, row_length, cells}

-- the first literal holds: at least one of one does
first_row : next_values true true [] true ≡ true ∷ []
first_row = refl

-- the second does not: at least one of two do, and not both
second_row : next_values true true (true ∷ []) false ≡ true ∷ false ∷ []
second_row = refl

-- The third does: at least two of three do. Its cell of at least one is not wanted, nor one of all.
third_row : next_values false false (true ∷ false ∷ []) true ≡ true ∷ []
third_row = refl

third_row_is : row_low 2 3 ∷ row_length 2 2 3 ∷ cells 2 2 3 ∷ [] ≡ 2 ∷ 1 ∷ 4 ∷ []
third_row_is = refl
