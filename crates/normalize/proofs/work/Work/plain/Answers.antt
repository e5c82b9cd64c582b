-- The rule itself.
use Rattle.normalize.specs.private.Inside.{stage_of}
use Rattle.normalize.proofs.WorkLaws.{plain-turns, plain-adds}
use Rattle.normalize.proofs.work.Work.plain.Goals as goal

pub returns-clause-turns : goal.returns-clause-turns
returns-clause-turns c =
    plain-turns c.args.self (stage_of c.work.inside) c.work.view_is c.work.invariant c.args.head
    c.requires.normal c.args.lits.now c.in_ok-list.list c.push.new.self.items
    c.in_ok-push.ensures.items c.in_ok-list.ensures c.requires.head c.requires.lits

pub returns-clause-adds : goal.returns-clause-adds
returns-clause-adds c =
    plain-adds c.args.self (stage_of c.work.inside) c.work.view_is c.work.invariant c.args.head
    c.requires.normal c.args.lits.now c.in_ok-list.list c.push.new.self.items
    c.in_ok-push.ensures.items c.in_ok-list.ensures
