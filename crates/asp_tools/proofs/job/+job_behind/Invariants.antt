use Rattle.std.proofs.Common.{◌-◌, length}
use Rattle.asp_tools.proofs.job.+job_behind.Given as goal

abbrev pub decreases-job_behind : goal.decreases-job_behind
decreases-job_behind l = length l.words.now - l.read
