-- One literal more, or its fault.
use Rattle.std.proofs.Common.{arith}
use Rattle.std.proofs.lemmas.Grind.{common_steps}
use Rattle.statement_fields.proofs.SoFar.{Pushing-next, Pushing-fails}
use Rattle.smodels_format.proofs.body.push_literals.Goals as goal

pub returns-in_err-signed_atom-clause-err : goal.returns-in_err-signed_atom-clause-err
returns-in_err-signed_atom-clause-err c =
    let e = Pushing-fails _ c.loop-i.invariant c.loop-i-test.true c.in_err-signed_atom.ensures.err in
    grind (arith, common_steps)

pub loop-i-preserved : goal.loop-i-preserved
loop-i-preserved c =
    Pushing-next c.loop-i.invariant c.loop-i-test.true c.in_ok-signed_atom.ensures.ok c.signed_atom.ensures.rest c.in_ok-signed_atom.ensures.fits c.in_ok-push.ensures.ok
