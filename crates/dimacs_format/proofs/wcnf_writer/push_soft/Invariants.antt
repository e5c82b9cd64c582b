-- The lines of the clauses so far are written.
use Rattle.std.proofs.Common.{◌≡◌, ◌++◌, take}
use Rattle.dimacs_format.specs.Written.{soft_lines}
use Rattle.dimacs_format.proofs.wcnf_writer.push_soft.Given as goal

abbrev pub invariant-loop-clause : goal.invariant-loop-clause
invariant-loop-clause l = l.out.items ≡ l.fn.out.items ++ soft_lines (take l.clause-index l.clauses)
