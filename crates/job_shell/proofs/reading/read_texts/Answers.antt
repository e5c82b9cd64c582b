use Rattle.std.proofs.Common.{refl, ap, ◌+◌}
use Rattle.job_shell.proofs.ReadingLaws.{read-at, not-read-at, exactly-at_name, short-all}
use Rattle.job_shell.proofs.TooLongLaws.{exactly-none}
use Rattle.job_shell.proofs.reading.read_texts.Goals as goal

pub returns-in-Err-clause-err : goal.returns-in-Err-clause-err
returns-in-Err-clause-err g c =
    not-read-at _ _ _ c.args.names.now c.loop-name.name-index _ c.loop-name-test.true c.loop-name.texts c.loop-name.invariant.read c.loop-name.file c.loop-name.invariant.file c.in-Err.ended
    c.in-Err.ensures.err

pub returns-in-Err-clause-too_long : goal.returns-in-Err-clause-too_long
returns-in-Err-clause-too_long g c =
    exactly-at_name _ _ _ c.args.names.now c.loop-name.name-index _ c.loop-name-test.true c.loop-name.texts c.loop-name.invariant.read c.loop-name.file c.loop-name.invariant.file c.in-Err.ended
    c.requires.differ c.in-Err.ensures.err c.in-Err.ensures.given c.in-Err.ensures.too_long

pub returns-in-Err-push-clause-too_long : goal.returns-in-Err-push-clause-too_long
returns-in-Err-push-clause-too_long g c =
    exactly-none _ _ refl 1 _ (short-all _ _ _ c.args.names.now c.loop-name.name-index _ c.loop-name-test.true c.loop-name.texts c.loop-name.invariant.read c.in-Ok.text c.in-Ok.ensures.ok)

pub loop-name-preserved : goal.loop-name-preserved
loop-name-preserved g c = record {
  file = ap (λ n. n + 1) c.loop-name.invariant.file;
  read = rw c.in-Ok-push.ensures.ok (read-at _ _ _ c.args.names.now c.loop-name.name-index _ c.loop-name-test.true c.loop-name.texts c.loop-name.invariant.read c.in-Ok.text c.in-Ok.ensures.ok);
}
