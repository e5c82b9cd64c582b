use Rattle.std.proofs.Common.{drop}
use Rattle.std.specs.List.{AllByRecursion}
use Rattle.ground_program.specs.Facts.{IsShort}
use Rattle.text_tests.proofs.tests.smodels_texts.are_short.Given as goal

abbrev pub invariant-loop-level : goal.invariant-loop-level
invariant-loop-level l = AllByRecursion (λ level. IsShort level.items) (drop l.level-index l.levels) → AllByRecursion (λ level. IsShort level.items) l.levels
