use Rattle.statement_fields.proofs.SoFar.{Pushing-next, Pushing-faults}
use Rattle.statement_fields.proofs.lists.many_literals.Goals as goal

pub returns-in_err-literal-clause-err : goal.returns-in_err-literal-clause-err
returns-in_err-literal-clause-err c = Pushing-faults c.from_residual.result c.loop-i.invariant c.loop-i-test.true c.in_err-literal.ensures.err c.from_residual.ensures.1

pub loop-i-preserved : goal.loop-i-preserved
loop-i-preserved c =
    Pushing-next c.loop-i.invariant c.loop-i-test.true c.in_ok-literal.ensures.ok c.literal.ensures.rest c.in_ok-literal.ensures.fits c.in_ok-push.ensures.ok
