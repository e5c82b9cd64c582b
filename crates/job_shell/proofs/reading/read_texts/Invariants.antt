use Rattle.std.proofs.Common.{◌≡◌, take}
use Rattle.job_shell.specs.Reads.{names_of}
use Rattle.job_shell.specs.private.ReadTexts.{HasRead}
use Rattle.job_shell.proofs.reading.read_texts.Given as goal

abbrev pub invariant-loop-name : goal.invariant-loop-name
invariant-loop-name g l = record {
  file : l.file ≡ l.name-index;
  read : HasRead (take l.name-index (names_of l.names)) (g.D.Desk.state l.fn.desk) (g.D.Desk.state l.desk) l.texts;
}
