-- The clauses and values of small tables, by computation.
use Rattle.std.proofs.Common.{◌≡◌, refl, pos, negsuc, true, false, [], ◌∷◌}
use Rattle.asp_base.specs.Literal.{Pos, Neg}
use Rattle.gate_tables.specs.Rows.{table_value, table_clauses, has_one_output, is_row}
use Rattle.gate_tables.specs.Tables.{and2_rows, lt_pair_rows, is_below_or, two_digits}

-- the clauses of 3 as the conjunction of 1 and not 2
conjunction : table_clauses and2_rows (Pos 1 ∷ Neg 2 ∷ []) (Pos 3) ≡ (Pos 1 ∷ Neg 3 ∷ []) ∷ (Neg 2 ∷ Neg 3 ∷ []) ∷ (Neg 1 ∷ Pos 2 ∷ Pos 3 ∷ []) ∷ []
conjunction = refl

-- 2 is below 3, and is not below 2 where the digits below are not
two_three : table_value lt_pair_rows (true ∷ false ∷ true ∷ true ∷ false ∷ []) ≡ true
two_three = refl

two_two : table_value lt_pair_rows (true ∷ false ∷ true ∷ false ∷ false ∷ []) ≡ is_below_or (two_digits true false) (two_digits true false) false
two_two = refl

-- the last two of the clauses of a conjunction leave the output open where an input is false
open_output : has_one_output 2 ((pos 0 ∷ pos 1 ∷ [], negsuc 0) ∷ (negsuc 0 ∷ negsuc 0 ∷ [], pos 1) ∷ []) ≡ false
open_output = refl

-- no output is left where both clauses of one value are there
no_output : has_one_output 1 ((pos 0 ∷ [], pos 1) ∷ (pos 0 ∷ [], negsuc 0) ∷ []) ≡ false
no_output = refl

-- a row that says nothing of the output is none
silent_row : is_row 2 (pos 1 ∷ pos 1 ∷ [], pos 0) ≡ false
silent_row = refl
