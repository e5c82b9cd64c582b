use Rattle.std.proofs.lemmas.Result.{IfOk-weaker}
use Rattle.stable_check.proofs.VerdictLaws.{stable-verdict}
use Rattle.stable_check.proofs.checking.check.Goals as goal

pub returns-clause-stable : goal.returns-clause-stable
returns-clause-stable c = IfOk-weaker c.first_verdict.result _ _ (λ verdict is. stable-verdict c.args.program.now c.args.set.now verdict c.known.ensures.facts is) c.first_verdict.ensures
