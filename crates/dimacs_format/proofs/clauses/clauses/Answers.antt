-- One clause more, or the fault of the next.
use Rattle.std.proofs.lemmas.Result.{err_from_is_err_and}
use Rattle.dimacs_format.proofs.ClauseSteps.{ClausesSoFar-next, ClausesSoFar-fails}
use Rattle.dimacs_format.proofs.clauses.clauses.Goals as goal

pub returns-in_err-next_clause-clause-err : goal.returns-in_err-next_clause-clause-err
returns-in_err-next_clause-clause-err c =
    let p = err_from_is_err_and c.from_residual.result c.from_residual.ensures.1 in
    rw (p.1, p.2) (ClausesSoFar-fails _ c.loop-i.invariant c.loop-i-test.true c.in_err-next_clause.ensures.err)

pub loop-i-preserved : goal.loop-i-preserved
loop-i-preserved c =
    ClausesSoFar-next c.loop-i.invariant c.loop-i-test.true c.in_ok-next_clause.ensures.ok c.in_ok-next_clause.ensures.over c.in_ok-next_clause.ensures.last c.as_slice.ensures.value c.in_ok-push.ensures.ok
