use Rattle.std.proofs.lemmas.Result.{on_err_weaker}
use Rattle.job_shell.proofs.WritingLaws.{FailsToWriteText-from_write, FailsToWriteText-from_end, on_err_always}
use Rattle.job_shell.proofs.writing.write_text.Goals as goal

pub returns-in_err-count-clause-err : goal.returns-in_err-count-clause-err
returns-in_err-count-clause-err g c = on_err_always _ (FailsToWriteText-from_write _ _ _ _ _ _ c.loop-rest.invariant c.in_err-count.ensures.err)

pub returns-clause-err : goal.returns-clause-err
returns-clause-err g c = on_err_weaker c.end_write.result (λ f. FailsToWriteText-from_end _ _ _ _ _ _ c.loop-rest.invariant f) c.end_write.ensures.err
