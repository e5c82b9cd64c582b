-- What is still to be compared from here leads to the whole.
use Rattle.std.proofs.Common.{◌-◌, length}
use Rattle.digit_gates.proofs.Loops.{Comparing}
use Rattle.digit_gates.proofs.comparison.less.Given as goal

abbrev pub invariant-loop-i : goal.invariant-loop-i
invariant-loop-i l = Comparing l.xs l.ys l.fn.store l.store l.below l.i

abbrev pub decreases-loop-i : goal.decreases-loop-i
decreases-loop-i l = length l.xs - l.i
