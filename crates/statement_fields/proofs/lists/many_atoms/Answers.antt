use Rattle.statement_fields.proofs.SoFar.{Pushing-next, Pushing-faults}
use Rattle.statement_fields.proofs.lists.many_atoms.Goals as goal

pub returns-in_err-atom-clause-err : goal.returns-in_err-atom-clause-err
returns-in_err-atom-clause-err c = Pushing-faults c.from_residual.result c.loop-i.invariant c.loop-i-test.true c.in_err-atom.ensures.err c.from_residual.ensures.1

pub loop-i-preserved : goal.loop-i-preserved
loop-i-preserved c =
    Pushing-next c.loop-i.invariant c.loop-i-test.true c.in_ok-atom.ensures.ok c.atom.ensures.rest c.in_ok-atom.ensures.fits c.in_ok-push.ensures.ok
