-- A digit more, with the borrow that goes on or without.
use Rattle.std.proofs.Common.{rules, ◌≡◌, ◌+◌, suc, arith, length}
use Rattle.clause_store.specs.Extension.{Extends}
use Rattle.digit_gates.proofs.DigitGateLaws.{predecessor-is}
use Rattle.digit_gates.proofs.Loops.{borrowing-next, borrowing-last, borrowing-done, digit-extends}
use Rattle.digit_gates.proofs.borrow.predecessor.Goals as goal
use Rattle.digit_gates.proofs.borrow.predecessor.Goals.{then-i-digits+in_ok-borrow, else-i-digits}

pub loop-i-preserved : goal.loop-i-preserved
loop-i-preserved c = elim c.if-i-digits.branch [
  | then-i-digits+in_ok-borrow w ↦
      rw (w.store-is, w.borrow-is, w.in_ok-borrow.ensures.store, w.in_ok-borrow.ensures.borrow, c.in_ok-push-2.ensures.ok, c.in_ok-digit_less.ensures.digit, c.in_ok-digit_less.ensures.store)
      (borrowing-next c.as_slice-digits.result.now c.args.store.now c.loop-i.store c.loop-i.borrow c.index-digits-i.result c.loop-i.made c.loop-i.i (c.loop-i.i + 1) (omega arith) w.if-i-digits.true c.index-digits-i.is c.loop-i.invariant)
  | else-i-digits w ↦
      let last : length c.as_slice-digits.result.now ≡ suc c.loop-i.i = omega (arith, w.if-i-digits.false, c.loop-i-test.true) in
      rw (w.store-is, w.borrow-is, c.in_ok-push-2.ensures.ok, c.in_ok-digit_less.ensures.digit, c.in_ok-digit_less.ensures.store)
      (borrowing-last c.as_slice-digits.result.now c.args.store.now c.loop-i.store c.loop-i.borrow c.index-digits-i.result c.loop-i.made c.loop-i.i (c.loop-i.i + 1) (omega arith) last c.index-digits-i.is c.loop-i.invariant)
]

pub returns-clause-is : goal.returns-clause-is
returns-clause-is c =
    let done = borrowing-done c.as_slice-digits.result.now c.args.store.now c.loop-i.store c.loop-i.borrow c.loop-i.made c.loop-i.i c.loop-i-test.false c.loop-i.invariant in
    rw (done.0, done.1, c.as_slice-digits.ensures)
    (predecessor-is c.args.x.now c.args.store.now c.requires.some c.known.ensures.sound c.requires.over)

pub returns-in_err-push-2-clause-err : goal.returns-in_err-push-2-clause-err
returns-in_err-push-2-clause-err c =
    let is : Extends c.args.store.now c.digit_less.new.store = rw c.in_ok-digit_less.ensures.store
    (digit-extends c.as_slice-digits.result.now c.args.store.now c.loop-i.store c.loop-i.borrow c.index-digits-i.result c.loop-i.made c.loop-i.i c.loop-i-test.true c.index-digits-i.is c.loop-i.invariant) in
    search rules

pub returns-in_err-borrow-clause-err : goal.returns-in_err-borrow-clause-err
returns-in_err-borrow-clause-err c =
    let is : Extends c.args.store.now c.borrow_on.new.store = rw (c.in_err-borrow.ensures.err, c.in_ok-digit_less.ensures.store)
    (digit-extends c.as_slice-digits.result.now c.args.store.now c.loop-i.store c.loop-i.borrow c.index-digits-i.result c.loop-i.made c.loop-i.i c.loop-i-test.true c.index-digits-i.is c.loop-i.invariant) in
    search rules
