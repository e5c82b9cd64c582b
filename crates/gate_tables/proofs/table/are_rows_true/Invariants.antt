-- The rows that are left are true just where all are.
use Rattle.std.proofs.Common.{◌≡◌, drop, true}
use Rattle.gate_tables.specs.Rows.{rows_true}
use Rattle.gate_tables.proofs.table.are_rows_true.Given as goal

abbrev pub invariant-loop-row : goal.invariant-loop-row
invariant-loop-row g l = rows_true (drop l.row-index l.rows) l.values true ≡ rows_true l.rows l.values true
