-- Items of one weight are counted, and the others go level by level, as they are planned.
use Rattle.std.proofs.Common.{◌≡◌, ◌∙◌, ◌+◌, leb, length, ap, sym, subst, arith}
use Rattle.std.proofs.lemmas.Result.{IfOk-weaker, IfOk-from_err}
use Rattle.asp_base.specs.Sets.{Set}
use Rattle.ground_program.specs.Room.{levels_measure, items_measure}
use Rattle.ground_program.specs.private.Levels.{AreCut}
use Rattle.ground_program.proofs.RoomLaws.{weights-cut}
use Rattle.rule_network.specs.Block.{HasRoom, Defines, Adds, values}
use Rattle.rule_network.specs.Truths.{count}
use Rattle.weight_rules.specs.private.Levels.{held, truths, IsPlan}
use Rattle.weight_rules.proofs.EqualLaws.{some-items, first-cut, equal-measured, levels-measured}
use Rattle.weight_rules.proofs.PlanLaws.{given-plan, given-measure}
use Rattle.weight_rules.proofs.ReachLaws.{same-test}
use Rattle.weight_rules.proofs.sums.cut_sum_reached.Goals as goal
use Rattle.weight_rules.proofs.sums.cut_sum_reached.Goals.{After-as_slice-3}

pub bounds-items-0 : goal.bounds-items-0
bounds-items-0 c = some-items c.args.items.now c.args.bound c.requires.positive c.requires.enough

pub bounds-items-0-2 : goal.bounds-items-0-2
bounds-items-0-2 c = some-items c.args.items.now c.args.bound c.requires.positive c.requires.enough

pub equal_reached-requires-clause-weight : goal.equal_reached-requires-clause-weight
equal_reached-requires-clause-weight c =
    (first-cut c.args.bound c.args.items.now c.index-items-0.result
    (some-items c.args.items.now c.args.bound c.requires.positive c.requires.enough)
    (subst (AreCut c.args.bound) (sym c.requires.cut)
    (weights-cut c.args.bound c.args.given.now c.requires.positive))).0

pub equal_reached-requires-clause-light : goal.equal_reached-requires-clause-light
equal_reached-requires-clause-light c =
    (first-cut c.args.bound c.args.items.now c.index-items-0.result
    (some-items c.args.items.now c.args.bound c.requires.positive c.requires.enough)
    (subst (AreCut c.args.bound) (sym c.requires.cut)
    (weights-cut c.args.bound c.args.given.now c.requires.positive))).1

pub equal_reached-requires-clause-equal : goal.equal_reached-requires-clause-equal
equal_reached-requires-clause-equal c = sym c.are_equal.ensures ∙ c.if-are_equal.true

pub equal_reached-requires-clause-room : goal.equal_reached-requires-clause-room
equal_reached-requires-clause-room c =
    subst (λ m. HasRoom m c.args.net.now)
    (equal-measured c.args.bound c.args.items.now c.index-items-0.result
    (some-items c.args.items.now c.args.bound c.requires.positive c.requires.enough)
    (sym c.are_equal.ensures ∙ c.if-are_equal.true))
    c.requires.room

pub returns-then-are_equal-clause-adds : goal.returns-then-are_equal-clause-adds
returns-then-are_equal-clause-adds c =
    IfOk-weaker c.equal_reached.result _ _
    (λ lit a. subst (λ m. Adds m m c.args.net.now c.equal_reached.new.net)
    (sym
    (equal-measured c.args.bound c.args.items.now c.index-items-0.result
    (some-items c.args.items.now c.args.bound c.requires.positive c.requires.enough)
    (sym c.are_equal.ensures ∙ c.if-are_equal.true))) a)
    c.equal_reached.ensures.adds

-- ---- level by level

is_plan : (c : After-as_slice-3)
    → IsPlan c.as_slice-2.result.now c.as_slice-3.result.now c.args.items.now c.args.bound
is_plan c =
    given-plan c.args.given.now c.args.items.now c.args.bound c.in_ok-plan.plan.radices
    c.in_ok-plan.plan.tares c.as_slice-2.result.now c.as_slice-3.result.now
    c.in_ok-plan.plan.top c.requires.small c.requires.cut c.as_slice-2.ensures c.as_slice-3.ensures
    c.in_ok-plan.ensures

measured : (c : After-as_slice-3)
    → items_measure c.args.bound c.args.items.now
    ≡ levels_measure (length c.as_slice-2.result.now) c.args.bound c.args.items.now
    (length c.as_slice.result.now)
measured c =
    levels-measured c.args.bound c.args.items.now c.index-items-0.result
    (some-items c.args.items.now c.args.bound c.requires.positive c.requires.enough)
    (sym c.are_equal.ensures ∙ c.if-are_equal.false)
    ∙ given-measure c.args.given.now c.args.items.now c.args.bound (length c.as_slice.result.now)
    c.as_slice-2.result.now c.as_slice-3.result.now c.requires.positive c.requires.small
    c.requires.cut (ap length (c.as_slice.ensures ∙ c.new-carries.ensures)) (is_plan c)

pub returns-in_err-plan-clause-adds : goal.returns-in_err-plan-clause-adds
returns-in_err-plan-clause-adds c = IfOk-from_err c.from_residual.result _ c.from_residual.ensures.0

pub reached-requires-clause-plan : goal.reached-requires-clause-plan
reached-requires-clause-plan c = is_plan (goal.at.reached-requires-clause-plan c).After-as_slice-3

pub reached-requires-clause-room : goal.reached-requires-clause-room
reached-requires-clause-room c =
    subst (λ m. HasRoom m c.args.net.now)
    (measured (goal.at.reached-requires-clause-room c).After-as_slice-3) c.requires.room

pub returns-clause-reaches : goal.returns-clause-reaches
returns-clause-reaches c =
    IfOk-weaker c.reached.result
    (λ lit. Defines c.args.net.now c.reached.new.net lit
    (λ X M. leb c.args.bound
    (held (truths c.args.net.now X M c.args.items.now)
    + count (values c.args.net.now X M c.as_slice.result.now))))
    (λ lit. Defines c.args.net.now c.reached.new.net lit
    (λ X M. leb c.args.bound (held (truths c.args.net.now X M c.args.items.now))))
    (λ lit d. same-test c.args.net.now c.reached.new.net lit
    (λ X M. leb c.args.bound
    (held (truths c.args.net.now X M c.args.items.now)
    + count (values c.args.net.now X M c.as_slice.result.now)))
    (λ X M. leb c.args.bound (held (truths c.args.net.now X M c.args.items.now)))
    (λ X M. ap (leb c.args.bound) (no-carries X M)) d)
    c.reached.ensures.reaches
  where
    no-carries : (X M : Set)
        → held (truths c.args.net.now X M c.args.items.now)
        + count (values c.args.net.now X M c.as_slice.result.now)
        ≡ held (truths c.args.net.now X M c.args.items.now)
    no-carries X M =
        let e : count (values c.args.net.now X M c.as_slice.result.now) ≡ 0 =
        ap (λ lits. count (values c.args.net.now X M lits))
        (c.as_slice.ensures ∙ c.new-carries.ensures) in
        omega arith

pub returns-clause-adds : goal.returns-clause-adds
returns-clause-adds c =
    IfOk-weaker c.reached.result _ _
    (λ lit a. subst (λ m. Adds m m c.args.net.now c.reached.new.net)
    (sym (measured (goal.at.returns-clause-adds c).After-as_slice-3)) a)
    c.reached.ensures.adds
