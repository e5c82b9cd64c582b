-- What is true of the levels that are left is true of all.
use Rattle.std.proofs.Common.{◌≡◌, drop, pos, int_le}
use Rattle.std.specs.List.{list_all}
use Rattle.smodels_format.proofs.writability.levels_fit.Given as goal

abbrev pub invariant-loop-level : goal.invariant-loop-level
invariant-loop-level l = list_all (λ level. list_all (λ item. int_le (pos 0) item.1) level.items) (drop l.level-index l.levels) ≡ list_all (λ level. list_all (λ item. int_le (pos 0) item.1) level.items) l.levels
