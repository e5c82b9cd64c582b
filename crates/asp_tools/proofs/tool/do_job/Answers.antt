use Rattle.asp_tools.proofs.RanLaws.{run-ran, run-completes, run-exactly}
use Rattle.asp_tools.proofs.tool.do_job.Goals as goal

pub returns-clause-ran : goal.returns-clause-ran
returns-clause-ran g c = run-ran c.args.job.now.command _ _ _ _ _ _ _ c.command-command.ensures c.reads.ensures.names c.writes.ensures.names c.run_job-ended.result _ c.outcome_of.ensures.is c.run_job-ended.ensures.ran

pub returns-clause-completes : goal.returns-clause-completes
returns-clause-completes g c = run-completes c.args.job.now.command _ _ _ _ _ c.command-command.ensures c.reads.ensures.names c.run_job-ended.result _ c.outcome_of.ensures.is c.run_job-ended.ensures.completes

pub returns-clause-too_long : goal.returns-clause-too_long
returns-clause-too_long g c = run-exactly _ _ c.reads.ensures.names c.run_job-ended.result _ c.outcome_of.ensures.is c.outcome_of.ensures.short _ c.run_job-ended.ensures.too_long
