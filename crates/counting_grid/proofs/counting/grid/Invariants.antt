-- The row of the literals so far.
use Rattle.std.proofs.Common.{length, ◌-◌, ◌+◌}
use Rattle.counting_grid.specs.private.Rows.{Row}
use Rattle.counting_grid.proofs.counting.grid.Given as goal

abbrev pub invariant-loop-i : goal.invariant-loop-i
invariant-loop-i l = Row l.fn.net l.net l.lits l.row l.k (length l.lits - l.k + 1) l.i
