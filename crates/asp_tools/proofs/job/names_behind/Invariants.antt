use Rattle.std.proofs.Common.{◌≡◌, ◌≤◌, ◌-◌, length, take, drop}
use Rattle.job_shell.specs.Reads.{names_of}
use Rattle.asp_tools.proofs.job.names_behind.Given as goal

abbrev pub invariant-loop-place : goal.invariant-loop-place
invariant-loop-place l = (l.read ≤ l.place) × (l.place ≤ length l.words) × (names_of l.names.items ≡ take (l.place - l.read) (drop l.read l.words))
