-- There is room for the clauses so far.
use Rattle.std.proofs.Common.{◌-◌, ◌^◌, ◌≤◌, min, length, take}
use Rattle.dimacs_format.specs.Written.{soft_lines}
use Rattle.dimacs_format.proofs.wcnf_writer.soft_bytes.Given as goal

abbrev pub invariant-loop-i : goal.invariant-loop-i
invariant-loop-i l = min (length (soft_lines (take l.i l.formula.soft))) (2 ^ 64 - 1) ≤ l.most
