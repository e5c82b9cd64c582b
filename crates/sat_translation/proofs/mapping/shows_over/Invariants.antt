-- The shows before this one are renamed, and those from it on fit.
use Rattle.std.proofs.Common.{◌≡◌, ◌++◌, map, take, drop}
use Rattle.std.specs.List.{AllByRecursion}
use Rattle.ground_program.specs.Facts.{Among, ShowFits}
use Rattle.sat_translation.specs.InputMap.{show_over}
use Rattle.sat_translation.proofs.mapping.shows_over.Given as goal

abbrev pub invariant-loop-show : goal.invariant-loop-show
invariant-loop-show l = record {
  made : l.show-items ≡ map (show_over l.atoms) (take l.show-index l.fn.shows) ++ drop l.show-index l.fn.shows;
  fit : AllByRecursion (ShowFits (Among l.atoms)) (drop l.show-index l.fn.shows);
}
