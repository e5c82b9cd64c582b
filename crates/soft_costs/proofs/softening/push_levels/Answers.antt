use Rattle.std.proofs.Common.{◌≡◌, ◌∙◌, ap, ℤ, length, ◌-◌, ◌*◌, ◌<◌, drop, get_or, arith}
use Rattle.std.specs.List.{AllByRecursion}
use Rattle.asp_base.specs.Literal.{Literal}
use Rattle.clause_store.specs.Facts.{IsOver}
use Rattle.clause_store.specs.Stored.{Stored}
use Rattle.symbol_map.specs.Scale.{total, scale_of}
use Rattle.soft_costs.proofs.LevelSteps.{IsBefore, each-here, factor-here, length-factors, scale_of-above, soft-next, weights-below}
use Rattle.soft_costs.proofs.softening.push_levels.Goals as goal

pub bounds-factors-i : goal.bounds-factors-i
bounds-factors-i c =
    let same : length c.args.factors.now ≡ length c.args.levels.now = ap length c.requires.factors ∙ length-factors c.args.levels.now in
    omega (arith, same, c.loop-i.auto.i, c.loop-i-test.true)

pub push_items-requires-clause-above : goal.push_items-requires-clause-above
push_items-requires-clause-above c =
    let factor = factor-here c.args.factors.now c.args.levels.now c.loop-i.i c.requires.factors (omega (arith, c.loop-i-test.true)) (omega (arith, c.loop-i.auto.i)) in
    rw factor (scale_of-above (drop c.loop-i.i c.args.levels.now))

pub push_items-requires-clause-below : goal.push_items-requires-clause-below
push_items-requires-clause-below c =
    let levels = c.args.levels.now in
    let i = c.loop-i.i in
    let x = get_or levels (i - 1) c.index-levels-i.result in
    let factor = factor-here c.args.factors.now levels i c.requires.factors (omega (arith, c.loop-i-test.true)) (omega (arith, c.loop-i.auto.i)) in
    let before : IsBefore levels i x = (omega (arith, c.loop-i-test.true), omega (arith, c.loop-i.auto.i), ap (get_or levels (i - 1)) c.index-levels-i.is) in
    let here : scale_of (drop i levels) * total x.items < scale_of levels = weights-below levels i x before in
    rw (factor, c.as_slice.ensures) (omega (arith, here, c.requires.below))

pub push_items-requires-clause-over : goal.push_items-requires-clause-over
push_items-requires-clause-over c =
    let levels = c.args.levels.now in
    let i = c.loop-i.i in
    let x = get_or levels (i - 1) c.index-levels-i.result in
    let before : IsBefore levels i x = (omega (arith, c.loop-i-test.true), omega (arith, c.loop-i.auto.i), ap (get_or levels (i - 1)) c.index-levels-i.is) in
    rw (c.as_slice.ensures, ap (λ (s : Stored). s.vars) c.loop-i.invariant)
    (each-here (λ level. AllByRecursion (λ (item : Literal × ℤ). IsOver c.args.store.now.vars item.0) level.items) levels i x before c.requires.over)

pub loop-i-preserved : goal.loop-i-preserved
loop-i-preserved c =
    let levels = c.args.levels.now in
    let i = c.loop-i.i in
    let x = get_or levels (i - 1) c.index-levels-i.result in
    let before : IsBefore levels i x = (omega (arith, c.loop-i-test.true), omega (arith, c.loop-i.auto.i), ap (get_or levels (i - 1)) c.index-levels-i.is) in
    let factor = factor-here c.args.factors.now levels i c.requires.factors before.0 before.1 in
    soft-next levels i x _ _ c.args.store.now c.loop-i.store c.push_items.new.store before factor c.as_slice.ensures c.loop-i.invariant c.in_ok-push_items.ensures.ok
