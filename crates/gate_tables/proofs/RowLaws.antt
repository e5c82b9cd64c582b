-- The rows of gates that proofs build with: each list of rows is a table, and what its output is.
use Rattle.std.proofs.Common.{rules, ◌≡◌, refl, Bool, not, ◌&&◌, [], ◌∷◌}
use Rattle.gate_tables.specs.Rows.{table_value, differs, IsTable}
use Rattle.gate_tables.specs.Tables.{and2_rows, xor2_rows, lt_first_rows, lt_step_rows, lt_pair_rows, less_step}

pub and2-table : IsTable 2 and2_rows
and2-table = record { rows = refl; one_output = refl }

pub xor2-table : IsTable 2 xor2_rows
xor2-table = record { rows = refl; one_output = refl }

pub lt_first-table : IsTable 2 lt_first_rows
lt_first-table = record { rows = refl; one_output = refl }

pub lt_step-table : IsTable 3 lt_step_rows
lt_step-table = record { rows = refl; one_output = refl }

pub lt_pair-table : IsTable 5 lt_pair_rows
lt_pair-table = record { rows = refl; one_output = refl }

pub and2-value : (x y : Bool) → table_value and2_rows (x ∷ y ∷ []) ≡ (x && y)
and2-value x y = search rules

pub xor2-value : (x y : Bool) → table_value xor2_rows (x ∷ y ∷ []) ≡ differs x y
xor2-value x y = search rules

pub lt_first-value : (x y : Bool) → table_value lt_first_rows (x ∷ y ∷ []) ≡ (not x && y)
lt_first-value x y = search rules

pub lt_step-value : (x y c : Bool) → table_value lt_step_rows (x ∷ y ∷ c ∷ []) ≡ less_step x y c
lt_step-value x y c = search rules

pub lt_pair-value : (x1 x0 y1 y0 c : Bool) → table_value lt_pair_rows (x1 ∷ x0 ∷ y1 ∷ y0 ∷ c ∷ []) ≡ less_step x1 y1 (less_step x0 y0 c)
lt_pair-value x1 x0 y1 y0 c = search rules
