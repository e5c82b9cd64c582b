-- Two digits more, and one where it is left.
use Rattle.std.proofs.Common.{rules, ◌≡◌, ◌+◌, ◌<◌, suc, arith, length}
use Rattle.std.specs.List.{AllByRecursion}
use Rattle.clause_store.specs.Facts.{IsOver}
use Rattle.digit_gates.proofs.DigitGateLaws.{less-is}
use Rattle.digit_gates.proofs.Loops.{comparing-first, comparing-next, comparing-done, comparing-last}
use Rattle.digit_gates.proofs.comparison.less.Goals as goal
use Rattle.digit_gates.proofs.comparison.less.Goals.{then-i-xs+in_ok-below-3, else-i-xs}

pub loop-i-init : goal.loop-i-init
loop-i-init c =
    let same : length c.as_slice-xs.result.now ≡ length c.as_slice-ys.result.now = search rules in
    let some : 0 < length c.as_slice-xs.result.now = search rules in
    let over_x : AllByRecursion (IsOver c.args.store.now.vars) c.as_slice-xs.result.now = search rules in
    let over_y : AllByRecursion (IsOver c.args.store.now.vars) c.as_slice-ys.result.now = search rules in
    rw (c.in_ok-below.ensures.ok, c.in_ok-below.ensures.literal, c.lt_first.ensures.rows)
    (comparing-first c.as_slice-xs.result.now c.as_slice-ys.result.now c.args.store.now c.index-xs-0.result c.index-ys-0.result some same c.index-xs-0.is c.index-ys-0.is c.known.ensures.sound over_x over_y)

pub loop-i-preserved : goal.loop-i-preserved
loop-i-preserved c =
    let same : length c.as_slice-xs.result.now ≡ length c.as_slice-ys.result.now = search rules in
    rw (c.in_ok-below-2.ensures.store, c.in_ok-below-2.ensures.literal)
    (comparing-next c.as_slice-xs.result.now c.as_slice-ys.result.now c.args.store.now c.loop-i.store c.loop-i.below c.index-xs-i-in-loop-i.result c.index-ys-i-in-loop-i.result c.index-xs-i.result c.index-ys-i.result
    c.loop-i.i (c.loop-i.i + 1) (c.loop-i.i + 2) (omega arith) (omega arith) c.loop-i-test.true same c.index-xs-i-in-loop-i.is c.index-ys-i-in-loop-i.is c.index-xs-i.is c.index-ys-i.is c.loop-i.invariant)

pub returns-clause-is : goal.returns-clause-is
returns-clause-is c =
    let same : length c.as_slice-xs.result.now ≡ length c.as_slice-ys.result.now = search rules in
    let is = less-is c.args.x.now c.args.y.now c.args.store.now c.requires.some c.requires.same c.known.ensures.sound c.requires.over_x c.requires.over_y in
    elim c.if-i-xs.branch [
      | then-i-xs+in_ok-below-3 w ↦
          let last : suc c.loop-i.i ≡ length c.as_slice-xs.result.now = omega (arith, c.loop-i-test.false, w.if-i-xs.true) in
          let done = comparing-last c.as_slice-xs.result.now c.as_slice-ys.result.now c.args.store.now c.loop-i.store c.loop-i.below w.index-xs-i-then-i-xs.result w.index-ys-i-then-i-xs.result c.loop-i.i last same
          w.index-xs-i-then-i-xs.is w.index-ys-i-then-i-xs.is c.loop-i.invariant in
          rw (w.store-is, w.below-is, w.in_ok-below-3.ensures.ok, w.in_ok-below-3.ensures.literal, w.lt_step.ensures.rows, done.0, done.1, c.as_slice-xs.ensures, c.as_slice-ys.ensures) is
      | else-i-xs w ↦
          let done = comparing-done c.as_slice-xs.result.now c.as_slice-ys.result.now c.args.store.now c.loop-i.store c.loop-i.below c.loop-i.i (omega (arith, w.if-i-xs.false)) same c.loop-i.invariant in
          rw (w.store-is, w.below-is, done.0, done.1, c.as_slice-xs.ensures, c.as_slice-ys.ensures) is
    ]
