use Rattle.std.proofs.Common.{◌≡◌, map, take, drop}
use Rattle.std.specs.List.{AllByRecursion}
use Rattle.ground_program.specs.Facts.{Among, LevelFits}
use Rattle.sat_translation.specs.InputMap.{level_over}
use Rattle.sat_translation.proofs.mapping.levels_over.Given as goal

abbrev pub invariant-loop-level : goal.invariant-loop-level
invariant-loop-level l = record {
  made : l.renamed.items ≡ map (level_over l.atoms) (take l.level-index l.level-items);
  fit : AllByRecursion (LevelFits (Among l.atoms)) (drop l.level-index l.level-items);
}
