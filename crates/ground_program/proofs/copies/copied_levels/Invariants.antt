-- So many levels were copied.
use Rattle.std.proofs.Common.{◌≡◌, take}
use Rattle.ground_program.proofs.copies.copied_levels.Given as goal

abbrev pub invariant-loop-level : goal.invariant-loop-level
invariant-loop-level l = l.copy ≡ take l.level-index l.levels
