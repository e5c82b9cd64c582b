use Rattle.std.proofs.Common.{sym}
use Rattle.std.proofs.lemmas.Bool.{true≢false}
use Rattle.asp_base.specs.Sets.{none}
use Rattle.ground_program.proofs.FactLaws.{program-weighed}
use Rattle.ground_program.proofs.Least.{grown-closed, grown-smallest, grown-fixpoint}
use Rattle.ground_program.proofs.laws.least_model_is_least_closed_set.Goals as goal

pub returns-clause-closed : goal.returns-clause-closed
returns-clause-closed c = λ P M w. grown-closed P.rules M none w

pub returns-clause-smallest : goal.returns-clause-smallest
returns-clause-smallest c = λ P M X w k. grown-smallest P.rules M none X w (λ a e. absurd (true≢false (sym e))) k

pub returns-clause-fixpoint : goal.returns-clause-fixpoint
returns-clause-fixpoint c = λ P M w. grown-fixpoint P.rules M w

pub returns-clause-premise : goal.returns-clause-premise
returns-clause-premise c = program-weighed
