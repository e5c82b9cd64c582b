-- One digit more.
use Rattle.std.proofs.Common.{rules, ◌+◌, ◌≤◌, ℕ, ◌≡◌, arith, ap, ◌∙◌}
use Rattle.clause_store.specs.Stored.{with_variable}
use Rattle.digit_gates.proofs.Variables.{with_none, with_one, next_digits, digits-are}
use Rattle.digit_gates.specs.DigitGates.{with_variables}
use Rattle.digit_gates.proofs.made.digits.Goals as goal

pub loop-init : goal.loop-init
loop-init c = (with_none c.args.store.now, c.new-made.ensures)

pub fresh-requires : goal.fresh-requires
fresh-requires c = rw c.loop.invariant.0 (omega (arith, c.requires, c.loop-test.true))

pub loop-preserved : goal.loop-preserved
loop-preserved c = (
  c.in_ok-fresh.ensures.ok.1 ∙ (ap with_variable c.loop.invariant.0 ∙ with_one c.loop.counter c.args.store.now),
  next_digits c.loop.counter (c.loop.counter + 1) (omega arith) c.args.store.now c.loop.store c.loop.made c.push.new.self c.in_ok-fresh.field-0 c.loop.invariant.0 c.loop.invariant.1 c.in_ok-fresh.ensures.ok.0 c.in_ok-push.ensures.ok,
)

pub returns-in_err-push-clause-err : goal.returns-in_err-push-clause-err
returns-in_err-push-clause-err c =
    let few : c.loop.counter + 1 ≤ c.args.w = omega (arith, c.loop-test.true) in
    let is : c.fresh.new.self ≡ with_variables (c.loop.counter + 1) c.args.store.now =
    c.in_ok-fresh.ensures.ok.1 ∙ (ap with_variable c.loop.invariant.0 ∙ with_one c.loop.counter c.args.store.now) in
    let some : (k : ℕ) × (k ≤ c.args.w) × (c.fresh.new.self ≡ with_variables k c.args.store.now) = (c.loop.counter + 1, few, is) in
    search rules

pub returns-clause-is : goal.returns-clause-is
returns-clause-is c =
    let all : c.loop.counter ≡ c.args.w = search rules in
    rw (c.loop.invariant.0, c.loop.invariant.1, all) (digits-are c.args.w c.args.store.now)
