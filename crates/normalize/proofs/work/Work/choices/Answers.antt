-- One more atom.
use Rattle.normalize.proofs.GoingOn.{lits-stay, chosen-start, chosen-more}
use Rattle.std.proofs.Common.{arith}
use Rattle.normalize.proofs.work.Work.choices.Goals as goal

pub loop-atom-init : goal.loop-atom-init
loop-atom-init c =
    chosen-start c.args.self c.known.ensures c.args.atoms.now c.args.lits.now

pub choice-requires-clause-lits : goal.choice-requires-clause-lits
choice-requires-clause-lits c =
    lits-stay _ c.args.self c.loop-atom.work c.loop-atom.invariant.turns c.args.lits.now
    c.requires.lits

pub loop-atom-preserved : goal.loop-atom-preserved
loop-atom-preserved c =
    chosen-more c.args.self c.loop-atom.work c.in_ok-work.work c.args.atoms.now c.args.lits.now
    c.loop-atom.atom-index (omega arith) c.requires.atoms c.requires.lits c.loop-atom.invariant
    c.in_ok-work.ensures.turns c.in_ok-work.ensures.spends c.in_ok-work.ensures.adds
