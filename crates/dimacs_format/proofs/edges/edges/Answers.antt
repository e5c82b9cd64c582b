-- One edge more, or the fault of the next.
use Rattle.std.proofs.lemmas.Result.{err_from_is_err_and}
use Rattle.dimacs_format.proofs.EdgeSteps.{EdgesSoFar-next, EdgesSoFar-fails}
use Rattle.dimacs_format.proofs.edges.edges.Goals as goal

pub returns-in_err-next_edge-clause-err : goal.returns-in_err-next_edge-clause-err
returns-in_err-next_edge-clause-err c =
    let p = err_from_is_err_and c.from_residual.result c.from_residual.ensures.1 in
    rw (p.1, p.2) (EdgesSoFar-fails _ c.loop-i.invariant c.loop-i-test.true c.in_err-next_edge.ensures.err)

pub loop-i-preserved : goal.loop-i-preserved
loop-i-preserved c =
    EdgesSoFar-next c.loop-i.invariant c.loop-i-test.true c.in_ok-next_edge.ensures.ok c.in_ok-next_edge.ensures.over c.in_ok-next_edge.ensures.last c.in_ok-push.ensures.ok
