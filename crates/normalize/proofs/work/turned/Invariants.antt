-- So many rules were turned.
use Rattle.normalize.proofs.TurnedLaws.{Turned}
use Rattle.normalize.proofs.work.turned.Given as goal

abbrev pub invariant-loop-rule : goal.invariant-loop-rule
invariant-loop-rule l = Turned l.fn.program l.rule-index l.work
