use Rattle.std.proofs.Common.{take}
use Rattle.job_shell.specs.Reads.{names_of}
use Rattle.job_shell.specs.private.Written.{WroteEach}
use Rattle.job_shell.proofs.writing.write_texts.Given as goal

abbrev pub invariant-loop-place : goal.invariant-loop-place
invariant-loop-place g l = WroteEach (g.D.Desk.state l.fn.desk) (g.D.Desk.state l.desk) (take l.place (names_of l.names)) (take l.place l.texts)
