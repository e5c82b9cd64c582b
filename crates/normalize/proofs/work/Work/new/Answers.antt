-- Where nothing was made yet.
use Rattle.normalize.proofs.WorkLaws.{start-stage}
use Rattle.normalize.proofs.work.Work.new.Goals as goal

pub invariant_of-result : goal.invariant_of-result
invariant_of-result c =
    start-stage c.args.program.now c.known.ensures.facts _ _ _ c.new.ensures.items
    c.in_ok-new.ensures c.new-3.ensures
