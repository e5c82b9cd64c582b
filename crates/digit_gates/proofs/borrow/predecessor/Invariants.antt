-- What is still to be done from here leads to the whole.
use Rattle.digit_gates.proofs.Loops.{Borrowing}
use Rattle.digit_gates.proofs.borrow.predecessor.Given as goal

abbrev pub invariant-loop-i : goal.invariant-loop-i
invariant-loop-i l = Borrowing l.digits l.fn.store l.store l.borrow l.made l.i
