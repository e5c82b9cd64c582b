-- One of the entries that are left is true just where one of all is.
use Rattle.std.proofs.Common.{◌≡◌, drop}
use Rattle.gate_tables.specs.Rows.{entries_true}
use Rattle.gate_tables.proofs.table.are_entries_true.Given as goal

abbrev pub invariant-loop-i : goal.invariant-loop-i
invariant-loop-i l = entries_true (drop l.i l.entries) (drop l.i l.values) ≡ entries_true l.entries l.values
