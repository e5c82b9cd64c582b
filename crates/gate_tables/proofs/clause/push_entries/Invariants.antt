-- The literals so far, and those of the entries that are left, are those of all.
use Rattle.std.proofs.Common.{◌≡◌, ◌++◌, drop}
use Rattle.gate_tables.specs.Rows.{entries_literals}
use Rattle.gate_tables.proofs.clause.push_entries.Given as goal

abbrev pub invariant-loop-i : goal.invariant-loop-i
invariant-loop-i l = l.clause.items ++ entries_literals (drop l.i l.entries) (drop l.i l.lits) ≡ l.fn.clause.items ++ entries_literals l.entries l.lits
