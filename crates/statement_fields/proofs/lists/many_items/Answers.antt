use Rattle.statement_fields.proofs.SoFar.{Pushing-next, Pushing-faults}
use Rattle.statement_fields.proofs.lists.many_items.Goals as goal

pub returns-in_err-item-clause-err : goal.returns-in_err-item-clause-err
returns-in_err-item-clause-err c = Pushing-faults c.from_residual.result c.loop-i.invariant c.loop-i-test.true c.in_err-item.ensures.err c.from_residual.ensures.1

pub loop-i-preserved : goal.loop-i-preserved
loop-i-preserved c =
    Pushing-next c.loop-i.invariant c.loop-i-test.true c.in_ok-item.ensures.ok c.item.ensures.rest c.in_ok-item.ensures.fits c.in_ok-push.ensures.ok
