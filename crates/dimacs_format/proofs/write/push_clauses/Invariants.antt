-- The lines of the clauses so far are written.
use Rattle.std.proofs.Common.{◌≡◌, ◌++◌, take}
use Rattle.dimacs_format.specs.Written.{clause_lines}
use Rattle.dimacs_format.proofs.write.push_clauses.Given as goal

abbrev pub invariant-loop-i : goal.invariant-loop-i
invariant-loop-i l = l.out.items ≡ l.fn.out.items ++ clause_lines (take l.i l.clauses)
