-- One clause more, or the fault of the next.
use Rattle.std.proofs.lemmas.Result.{err_from_is_err_and}
use Rattle.dimacs_format.proofs.WeightSteps.{PartsSoFar-next, PartsSoFar-fails}
use Rattle.dimacs_format.proofs.weighted.weighted.Goals as goal

pub returns-in_err-weight-clause-err : goal.returns-in_err-weight-clause-err
returns-in_err-weight-clause-err c =
    let p = err_from_is_err_and c.from_residual.result c.from_residual.ensures.1 in
    rw (p.1, p.2) (PartsSoFar-fails _ c.loop-i.invariant c.loop-i-test.true c.in_err-weight.ensures.err)

pub loop-i-preserved : goal.loop-i-preserved
loop-i-preserved c =
    PartsSoFar-next c.loop-i.invariant c.loop-i-test.true c.in_ok-weight.ensures.ok c.in_ok-weight.ensures.positive c.in_ok-weight.ensures.over c.in_ok-weight.ensures.last c.as_slice.ensures.value c.in_ok-put.ensures.hard c.in_ok-put.ensures.soft
