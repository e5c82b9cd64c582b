-- The new atom is the one cell of a network.
use Rattle.std.proofs.Common.{◌∷◌, [], sym, subst}
use Rattle.ground_program.specs.Dependencies.{positives_of_literals}
use Rattle.ground_program.specs.declared.program.Body.TheVariants.{All}
use Rattle.normalize.specs.private.Added.{AddsAnswer}
use Rattle.normalize.specs.private.Inside.{stage_of}
use Rattle.normalize.specs.private.Stage.{Answers}
use Rattle.normalize.proofs.Stages.{stage}
use Rattle.normalize.proofs.WorkLaws.{drawn-stage, named-answers, named-adds}
use Rattle.normalize.proofs.work.Work.name.Goals as goal

pub invariant_of-work : goal.invariant_of-work
invariant_of-work c =
    drawn-stage (stage_of c.work.inside) c.work.invariant c.next-atom.result c.next-atom.new.self
    c.push.new.self.items c.next-atom.ensures.given c.next-atom.ensures.least
    c.next-atom.ensures.most

pub returns-clause-answers : goal.returns-clause-answers
returns-clause-answers c =
    subst (λ l. Answers (All c.args.lits.now) (l ∷ []) c.args.self
    (stage c.push.new.self.items c.next-atom.new.self c.work.inside.complements))
    (sym c.positive.ensures)
    (named-answers c.args.self (stage_of c.work.inside) c.work.view_is c.work.invariant
    c.args.lits.now c.in_ok-body.body c.next-atom.result c.push.new.self.items
    c.next-atom.new.self
    c.in_ok-push.ensures.items c.in_ok-body.ensures c.next-atom.ensures.given
    c.next-atom.ensures.number
    c.next-atom.ensures.most c.requires.lits)

pub returns-clause-adds : goal.returns-clause-adds
returns-clause-adds c =
    subst (λ l. AddsAnswer (positives_of_literals c.args.lits.now) (l ∷ []) c.args.self
    (stage c.push.new.self.items c.next-atom.new.self c.work.inside.complements))
    (sym c.positive.ensures)
    (named-adds c.args.self (stage_of c.work.inside) c.work.view_is c.work.invariant
    c.args.lits.now c.in_ok-body.body c.next-atom.result c.push.new.self.items
    c.next-atom.new.self
    c.in_ok-push.ensures.items c.in_ok-body.ensures c.next-atom.ensures.given
    c.next-atom.ensures.number
    c.next-atom.ensures.most c.requires.lits)
