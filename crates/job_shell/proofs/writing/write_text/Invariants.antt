use Rattle.std.proofs.Common.{length}
use Rattle.job_shell.proofs.WritingLaws.{HasWritten}
use Rattle.job_shell.proofs.writing.write_text.Given as goal

abbrev pub invariant-loop-rest : goal.invariant-loop-rest
invariant-loop-rest g l = HasWritten (g.D.Desk.state l.fn.desk) (g.D.Desk.state l.desk) l.name l.text l.rest

abbrev pub decreases-loop-rest : goal.decreases-loop-rest
decreases-loop-rest g l = length l.rest
