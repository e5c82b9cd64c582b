use Rattle.asp_base.proofs.Steps.{FailsToBeginWriting-from_fails}
use Rattle.asp_base.proofs.mem.fail.FailDeskDesk.begin_write.Goals as goal

pub returns-then-fails-clause-err : goal.returns-then-fails-clause-err
returns-then-fails-clause-err c = FailsToBeginWriting-from_fails _ _ _ _ c.fails.ensures.state c.fail_writing.ensures.state c.requires
