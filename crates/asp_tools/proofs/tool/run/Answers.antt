use Rattle.std.proofs.Common.{sym, subst, IfSome}
use Rattle.asp_tools.specs.Ran.{InOrder, Completes}
use Rattle.asp_tools.proofs.tool.run.Goals as goal

pub returns-clause-in_order : goal.returns-clause-in_order
returns-clause-in_order g c =
    subst (λ k. IfSome k (λ j. InOrder j (g.D.Desk.state c.args.desk.now) (g.D.Desk.state c.complain.new.desk) c.do_if_any-outcome.result)) c.job_of-job.ensures
    (subst (λ s. IfSome c.job_of-job.result (λ j. InOrder j (g.D.Desk.state c.args.desk.now) s c.do_if_any-outcome.result)) (sym c.complain.ensures) c.do_if_any-outcome.ensures.in_order)

pub returns-clause-completes : goal.returns-clause-completes
returns-clause-completes g c =
    subst (λ k. IfSome k (λ j. Completes j (g.D.Desk.state c.args.desk.now) (g.D.Desk.state c.complain.new.desk) c.do_if_any-outcome.result)) c.job_of-job.ensures
    (subst (λ s. IfSome c.job_of-job.result (λ j. Completes j (g.D.Desk.state c.args.desk.now) s c.do_if_any-outcome.result)) (sym c.complain.ensures) c.do_if_any-outcome.ensures.completes)
