-- The lines of the clauses so far are written.
use Rattle.std.proofs.Common.{◌≡◌, ◌++◌, take}
use Rattle.dimacs_format.specs.Written.{hard_lines}
use Rattle.dimacs_format.proofs.wcnf_writer.push_hard.Given as goal

abbrev pub invariant-loop-i : goal.invariant-loop-i
invariant-loop-i l = l.out.items ≡ l.fn.out.items ++ hard_lines l.top (take l.i l.clauses)
