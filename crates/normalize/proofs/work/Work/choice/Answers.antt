-- The rule of a choice, where the complement is there and where it is new.
use Rattle.std.proofs.Common.{◌≡◌, ◌∙◌, ◌≤◌, ◌^◌, sym, ap, subst, true, ◌++◌, ◌∷◌, [], arith}
use Rattle.asp_base.specs.Literal.{negation}
use Rattle.normalize.specs.private.Inside.{stage_of}
use Rattle.normalize.specs.private.Stage.{atoms_of, IsUnlisted}
use Rattle.normalize.proofs.Listing.{unlisted-listed}
use Rattle.normalize.proofs.StageLaws.{atoms-known}
use Rattle.normalize.proofs.Stages.{stage}
use Rattle.normalize.proofs.WorkLaws.{Chosen, listed-fits, atom-fits, chosen-leaves, complement-leaves, more-stage}
use Rattle.normalize.proofs.work.Work.choice.Goals as goal
use Rattle.normalize.proofs.work.Work.choice.Goals.{In_ok-push, In_ok-insert}

pub positive-requires-clause-above : goal.positive-requires-clause-above
positive-requires-clause-above c =
    (listed-fits (stage_of c.work.inside) c.work.invariant c.args.atom c.in-Some.complement
    c.in-Some.ensures.listed).0

pub positive-requires-clause-below : goal.positive-requires-clause-below
positive-requires-clause-below c =
    let h : c.in-Some.complement ≤ 2 ^ 30 =
    (listed-fits (stage_of c.work.inside) c.work.invariant c.args.atom c.in-Some.complement
    c.in-Some.ensures.listed).1 in omega arith

chosen : (c : In_ok-push)
    → Chosen c.args.atom c.args.lits.now c.args.self
    (stage c.push.new.self.items (stage_of c.work.inside).supply (stage_of c.work.inside).pairs)
chosen c =
    chosen-leaves c.args.self (stage_of c.work.inside) c.work.view_is c.work.invariant c.args.atom
    c.args.lits.now c.requires.atom c.requires.lits c.in-Some.complement c.in_ok-body.body
    c.push.new.self.items c.in_ok-push.ensures.items
    (c.in_ok-body.ensures
    ∙ ap (λ l. c.args.lits.now ++ (l ∷ [])) (c.negate.ensures ∙ ap negation c.positive.ensures))
    c.in-Some.ensures.listed

pub returns-in-Some-clause-turns : goal.returns-in-Some-clause-turns
returns-in-Some-clause-turns c =
    (chosen (goal.at.returns-in-Some-clause-turns c).In_ok-push).turns

pub returns-in-Some-clause-adds : goal.returns-in-Some-clause-adds
returns-in-Some-clause-adds c = (chosen (goal.at.returns-in-Some-clause-adds c).In_ok-push).adds

pub positive-requires-3-clause-above : goal.positive-requires-3-clause-above
positive-requires-3-clause-above c =
    (atom-fits c.args.self (stage_of c.work.inside) c.work.view_is c.work.invariant c.args.atom
    c.requires.atom).0

pub positive-requires-3-clause-below : goal.positive-requires-3-clause-below
positive-requires-3-clause-below c =
    let h : c.args.atom ≤ 2 ^ 30 =
    (atom-fits c.args.self (stage_of c.work.inside) c.work.view_is c.work.invariant c.args.atom
    c.requires.atom).1 in omega arith

pub invariant_of-work-2 : goal.invariant_of-work-2
invariant_of-work-2 c =
    more-stage (stage_of c.work.inside) c.work.invariant c.next-complement.result
    c.next-complement.new.self c.push-3.new.self.items c.next-complement.ensures.given
    c.next-complement.ensures.least c.next-complement.ensures.most c.args.atom c.insert.new.self
    c.in_ok-insert.ensures
    (atoms-known (stage_of c.work.inside) c.args.atom
    (subst (λ w. atoms_of w c.args.atom ≡ true) (sym c.work.view_is) c.requires.atom))
    c.in_default.ensures.unlisted

refuted : (c : In_ok-insert)
    → Chosen c.args.atom c.args.lits.now c.args.self
    (stage c.push-3.new.self.items c.next-complement.new.self c.insert.new.self)
refuted c =
    complement-leaves c.args.self (stage_of c.work.inside) c.work.view_is c.work.invariant
    c.args.atom c.args.lits.now c.requires.atom c.requires.lits c.next-complement.result
    c.in_ok-body-2.body c.in_ok-refuted.refuted c.push-2.new.self.items c.push-3.new.self.items
    c.next-complement.new.self c.insert.new.self c.in_ok-push-2.ensures.items
    (c.in_ok-body-2.ensures
    ∙ ap (λ l. c.args.lits.now ++ (l ∷ []))
    (c.negate-2.ensures ∙ ap negation c.positive-2.ensures))
    c.in_ok-push-3.ensures.items
    (c.in_ok-refuted.ensures
    ∙ ap (λ l. l ∷ []) (c.negate-3.ensures ∙ ap negation c.positive-3.ensures))
    c.next-complement.ensures.given c.in_ok-insert.ensures c.next-complement.ensures.least

pub returns-clause-turns : goal.returns-clause-turns
returns-clause-turns c = (refuted (goal.at.returns-clause-turns c).In_ok-insert).turns

pub returns-clause-adds : goal.returns-clause-adds
returns-clause-adds c = (refuted (goal.at.returns-clause-adds c).In_ok-insert).adds

pub returns-clause-once : goal.returns-clause-once
returns-clause-once c x h =
    absurd (unlisted-listed c.args.self.pairs c.args.atom x
    (subst (λ w. IsUnlisted w.pairs c.args.atom) c.work.view_is c.in_default.ensures.unlisted) h)
