-- So many atoms were chosen.
use Rattle.normalize.proofs.GoingOn.{Chosen}
use Rattle.normalize.proofs.work.Work.choices.Given as goal

abbrev pub invariant-loop-atom : goal.invariant-loop-atom
invariant-loop-atom l = Chosen l.atoms l.lits l.atom-index l.fn.self l.work
