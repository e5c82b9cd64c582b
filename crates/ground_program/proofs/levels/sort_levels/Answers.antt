use Rattle.std.proofs.Common.{rules}
use Rattle.std.proofs.lemmas.List.Sorted.{answers_always}
use Rattle.ground_program.proofs.FallingOrder.{falls_weakly, falling_order}
use Rattle.ground_program.proofs.levels.sort_levels.Goals as goal

pub returns-clause-sorted : goal.returns-clause-sorted
returns-clause-sorted c = c.in_ok-sort_by.ensures.sorted falling_order falls_weakly (answers_always _ _ _ (λ f a r g h. search rules))

pub returns-clause-stable : goal.returns-clause-stable
returns-clause-stable c = c.in_ok-sort_by.ensures.stable falling_order falls_weakly (answers_always _ _ _ (λ f a r g h. search rules))
