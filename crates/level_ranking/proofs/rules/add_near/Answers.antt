-- The clause is over the variables that are there, of which the comparisons add few.
use Rattle.std.proofs.Common.{◌≡◌, ◌+◌, ◌*◌, ◌≤◌, ◌∙◌, ap, ap₂, ◌++◌, sym, subst, length}
use Rattle.digit_gates.specs.DigitGates.{less_vars}
use Rattle.level_ranking.specs.Encoding.{after_compared, compared}
use Rattle.level_ranking.specs.declared.comparisons.First.TheVariants.{Other}
use Rattle.level_ranking.specs.private.Pairs.{paired}
use Rattle.level_ranking.proofs.NearLaws.{near-over, near-grows}
use Rattle.level_ranking.proofs.rules.add_near.Goals as goal

pub clause-requires : goal.clause-requires
clause-requires c =
    let p : c.as_slice-places.result.now ≡ c.args.rule.now.inside = c.as_slice-places.ensures.value ∙ ap (λ r. r.inside) c.rule.view_is in
    let pairs = paired Other c.args.lower.now c.args.digits.now in
    near-over c.args.lower.now c.args.digits.now c.args.rule.now c.args.store.now c.known.ensures.sound c.requires.can c.push_not_below.new.store c.as_slice.result.now
    (c.in_ok-push_not_below.ensures.store ∙ ap (λ places. after_compared (pairs places) c.args.store.now) p)
    (c.as_slice.ensures.value ∙ (c.in_ok-push_not_below.ensures.literals ∙ ap₂ (λ front places. front ++ compared (pairs places) c.args.store.now) c.in_ok-put_negated.ensures p))

pub returns-clause-from : goal.returns-clause-from
returns-clause-from c =
    let p : c.as_slice-places.result.now ≡ c.args.rule.now.inside = c.as_slice-places.ensures.value ∙ ap (λ r. r.inside) c.rule.view_is in
    let g = near-grows c.args.lower.now c.args.digits.now c.args.rule.now c.args.store.now c.known.ensures.sound c.requires.can c.push_not_below.new.store
    (c.in_ok-push_not_below.ensures.store ∙ ap (λ places. after_compared (paired Other c.args.lower.now c.args.digits.now places) c.args.store.now) p) in
    subst (λ n. c.args.store.now.vars ≤ n) (sym (ap (λ s. s.vars) c.in_ok-clause.ensures.ok)) g.0

pub returns-clause-few : goal.returns-clause-few
returns-clause-few c =
    let p : c.as_slice-places.result.now ≡ c.args.rule.now.inside = c.as_slice-places.ensures.value ∙ ap (λ r. r.inside) c.rule.view_is in
    let g = near-grows c.args.lower.now c.args.digits.now c.args.rule.now c.args.store.now c.known.ensures.sound c.requires.can c.push_not_below.new.store
    (c.in_ok-push_not_below.ensures.store ∙ ap (λ places. after_compared (paired Other c.args.lower.now c.args.digits.now places) c.args.store.now) p) in
    subst (λ n. n ≤ c.args.store.now.vars + less_vars (length c.args.lower.now) * length c.args.rule.now.inside) (sym (ap (λ s. s.vars) c.in_ok-clause.ensures.ok)) g.1
