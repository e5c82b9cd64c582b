-- There is room for the edges so far.
use Rattle.std.proofs.Common.{◌-◌, ◌^◌, ◌≤◌, min, length, take}
use Rattle.dimacs_format.specs.Written.{edge_lines}
use Rattle.dimacs_format.proofs.ecnf_writer.edge_bytes.Given as goal

abbrev pub invariant-loop-i : goal.invariant-loop-i
invariant-loop-i l = min (length (edge_lines (take l.i l.formula.edges))) (2 ^ 64 - 1) ≤ l.most
