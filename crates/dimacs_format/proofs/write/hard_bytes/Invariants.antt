-- There is room for the clauses so far.
use Rattle.std.proofs.Common.{◌-◌, ◌^◌, ◌≤◌, min, length, take}
use Rattle.dimacs_format.specs.Written.{clause_lines}
use Rattle.dimacs_format.proofs.write.hard_bytes.Given as goal

abbrev pub invariant-loop-i : goal.invariant-loop-i
invariant-loop-i l = min (length (clause_lines (take l.i l.formula.hard))) (2 ^ 64 - 1) ≤ l.most
