-- The last byte tells how the name ends.
use Rattle.smodels_format.proofs.WrittenSteps.{ends-some}
use Rattle.smodels_format.proofs.writability.ends_with_return.Goals as goal

pub returns-in-Some : goal.returns-in-Some
returns-in-Some c = ends-some c.args.name.now c.in-Some.byte.now c.in-Some.ensures.value
