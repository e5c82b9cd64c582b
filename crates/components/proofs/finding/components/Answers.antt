-- The cyclic components are those of the program.
use Rattle.std.proofs.lemmas.Result.{IfOk-weaker}
use Rattle.components.proofs.CyclicLaws.{cyclic-are}
use Rattle.components.proofs.finding.components.Goals as goal

pub returns-clause-cyclic : goal.returns-clause-cyclic
returns-clause-cyclic c =
    IfOk-weaker c.found.result _ _ (λ parts are. cyclic-are c.args.program.now c.known.ensures.facts parts are) c.found.ensures
