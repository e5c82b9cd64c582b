use Rattle.std.proofs.Common.{◌≤◌}
use Rattle.asp_tools.proofs.complaint.cut.Given as goal

abbrev pub invariant-loop-end : goal.invariant-loop-end
invariant-loop-end l = l.end ≤ 200

abbrev pub decreases-loop-end : goal.decreases-loop-end
decreases-loop-end l = l.end
