use Rattle.std.proofs.Common.{◌≡◌, drop}
use Rattle.job_shell.specs.Reads.{names_of}
use Rattle.asp_tools.specs.Job.{all_differ}
use Rattle.asp_tools.proofs.job.all_differ.Given as goal

abbrev pub invariant-loop-place : goal.invariant-loop-place
invariant-loop-place l = all_differ (names_of (drop l.place l.names)) ≡ all_differ (names_of l.names)
