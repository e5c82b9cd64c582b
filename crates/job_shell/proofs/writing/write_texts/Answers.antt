use Rattle.std.proofs.Common.{rules}
use Rattle.job_shell.proofs.WritingLaws.{wrote-at, fails-at}
use Rattle.job_shell.proofs.writing.write_texts.Goals as goal

pub returns-in-Err-clause-err : goal.returns-in-Err-clause-err
returns-in-Err-clause-err g c =
    fails-at _ _ _ c.args.names.now c.args.texts.now c.loop-place.place _ c.text.result.now (search rules) c.loop-place-test.true (search rules) c.requires.differ c.loop-place.invariant c.args.first
    c.in-Err.ensures.err

pub loop-place-preserved : goal.loop-place-preserved
loop-place-preserved g c =
    wrote-at _ _ _ c.args.names.now c.args.texts.now c.loop-place.place _ c.text.result.now (search rules) c.loop-place-test.true (search rules) c.requires.differ c.loop-place.invariant
    c.in-Ok.ensures.ok
