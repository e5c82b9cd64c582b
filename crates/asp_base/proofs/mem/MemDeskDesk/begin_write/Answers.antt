use Rattle.std.proofs.Common.{arith}
use Rattle.std.proofs.lemmas.Grind.{common_steps}
use Rattle.asp_base.proofs.Steps.{FailsToBeginWriting-from_fails}
use Rattle.asp_base.proofs.mem.MemDeskDesk.begin_write.Goals as goal

pub returns-then-is_err-clause-err : goal.returns-then-is_err-clause-err
returns-then-is_err-clause-err c = FailsToBeginWriting-from_fails _ _ _ _ (grind (arith, common_steps)) c.fail_writing.ensures.state c.requires
