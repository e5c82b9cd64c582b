-- One more rule, and the pieces of all.
use Rattle.std.proofs.Common.{◌≡◌, ◌∙◌, ap, subst, get_or, length, ◌<◌, ◌≤◌, arith}
use Rattle.std.proofs.lemmas.List.{take_all}
use Rattle.normalize.proofs.TurnedLaws.{Pieced, turned-start, turned-fits, turned-more, turned-pieces}
use Rattle.normalize.proofs.work.turned.Goals as goal
use Rattle.normalize.proofs.work.turned.Goals.{After-rule-item}

pub loop-rule-init : goal.loop-rule-init
loop-rule-init c = turned-start c.args.program.now c.in_ok-work.work c.in_ok-work.ensures

next : (c : After-rule-item)
    → (c.loop-rule.rule-index < length c.args.program.now.rules)
    × (c.rule-item.result
    ≡ get_or c.args.program.now.rules c.loop-rule.rule-index c.rule-item.result)
next c =
    let e : c.as_slice-rule-items.result.now ≡ c.args.program.now.rules =
    c.as_slice-rule-items.ensures ∙ ap (λ P. P.rules) c.program.view_is in
    let n : length c.as_slice-rule-items.result.now ≡ length c.args.program.now.rules =
    ap length e in (
      omega arith,
      c.rule-item.is
          ∙ ap (λ rules. get_or rules c.loop-rule.rule-index c.rule-item.result) e,
    )

pub rule-requires-clause-fits : goal.rule-requires-clause-fits
rule-requires-clause-fits c =
    let at = next (goal.at.rule-requires-clause-fits c).After-rule-item in
    turned-fits c.args.program.now c.loop-rule.rule-index c.loop-rule.work c.rule-item.result
    c.known.ensures.facts c.loop-rule.invariant at.0 at.1

pub loop-rule-preserved : goal.loop-rule-preserved
loop-rule-preserved c =
    let at = next (goal.at.loop-rule-preserved c).After-rule-item in
    turned-more c.args.program.now c.loop-rule.rule-index c.loop-rule.work c.in_ok-work-2.work
    c.rule-item.result c.known.ensures.facts at.0 at.1 c.loop-rule.invariant
    c.in_ok-work-2.ensures.turns c.in_ok-work-2.ensures.spends c.in_ok-work-2.ensures.adds
    c.in_ok-work-2.ensures.same

pub returns-clause-pieces : goal.returns-clause-pieces
returns-clause-pieces c =
    let n : length c.as_slice-rule-items.result.now ≡ length c.args.program.now.rules =
    ap length (c.as_slice-rule-items.ensures ∙ ap (λ P. P.rules) c.program.view_is) in
    let l : length c.args.program.now.rules ≤ c.loop-rule.rule-index = omega arith in
    turned-pieces c.args.program.now c.loop-rule.work c.known.ensures.facts
    (subst (λ rules. Pieced c.args.program.now rules c.loop-rule.work)
    (take_all c.loop-rule.rule-index c.args.program.now.rules l) c.loop-rule.invariant.pieced)
