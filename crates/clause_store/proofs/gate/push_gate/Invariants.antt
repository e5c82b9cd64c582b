-- The clauses of the rows so far stand behind the old ones.
use Rattle.std.proofs.Common.{◌≡◌, ◌++◌}
use Rattle.gate_tables.specs.Rows.{table_clauses}
use Rattle.clause_store.proofs.gate.push_gate.Given as goal

abbrev pub invariant-loop-of-emit : goal.invariant-loop-of-emit
invariant-loop-of-emit g l = l.hard ≡ l.fn.hard ++ table_clauses l.yielded l.inputs l.output
