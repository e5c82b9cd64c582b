-- What is true of a stage does not rest on its rules.
use Rattle.normalize.proofs.WorkLaws.{rules-stage}
use Rattle.normalize.proofs.work.Work.with_block.Goals as goal

pub invariant_of-result : goal.invariant_of-result
invariant_of-result c =
    rules-stage _ _ _ _ _ c.into_parts-block.ensures.supply
    (c.requires.stage c.into_parts-block.ensures.facts)
