-- The literals of a support are over the variables that are there, of which they add few.
use Rattle.std.proofs.Common.{◌∙◌, ap₂, arith}
use Rattle.clause_store.specs.Stored.{conjunction, after_conjunction}
use Rattle.level_ranking.proofs.SupportLaws.{support-over, support-vars, support-grows, support-over_literal}
use Rattle.level_ranking.proofs.rules.support.Goals as goal

pub all_of-requires-clause-over : goal.all_of-requires-clause-over
all_of-requires-clause-over c = rw (c.as_slice.ensures.value, c.in_ok-put_support.ensures.inputs, c.in_ok-put_support.ensures.store)
    (support-over c.args.lower.now c.args.digits.now c.args.rule.now c.args.store.now c.known.ensures.sound c.requires.can)

pub all_of-requires-clause-room : goal.all_of-requires-clause-room
all_of-requires-clause-room c = rw c.in_ok-put_support.ensures.store
    (omega (arith, support-vars c.args.lower.now c.args.digits.now c.args.rule.now c.args.store.now c.known.ensures.sound c.requires.can, c.requires.room))

pub returns-clause-from : goal.returns-clause-from
returns-clause-from c = (support-grows c.args.lower.now c.args.digits.now c.args.rule.now c.args.store.now c.known.ensures.sound c.requires.can c.all_of.new.self
    (c.in_ok-literal.ensures.ok ∙ ap₂ after_conjunction (c.as_slice.ensures.value ∙ c.in_ok-put_support.ensures.inputs) c.in_ok-put_support.ensures.store)).0

pub returns-clause-few : goal.returns-clause-few
returns-clause-few c = (support-grows c.args.lower.now c.args.digits.now c.args.rule.now c.args.store.now c.known.ensures.sound c.requires.can c.all_of.new.self
    (c.in_ok-literal.ensures.ok ∙ ap₂ after_conjunction (c.as_slice.ensures.value ∙ c.in_ok-put_support.ensures.inputs) c.in_ok-put_support.ensures.store)).1

pub returns-clause-over : goal.returns-clause-over
returns-clause-over c =
    support-over_literal c.args.lower.now c.args.digits.now c.args.rule.now c.args.store.now c.known.ensures.sound c.requires.can c.in_ok-literal.literal c.all_of.new.self
    (c.in_ok-literal.ensures.ok ∙ ap₂ after_conjunction (c.as_slice.ensures.value ∙ c.in_ok-put_support.ensures.inputs) c.in_ok-put_support.ensures.store)
    (c.in_ok-literal.ensures.literal ∙ ap₂ conjunction (c.as_slice.ensures.value ∙ c.in_ok-put_support.ensures.inputs) c.in_ok-put_support.ensures.store)
