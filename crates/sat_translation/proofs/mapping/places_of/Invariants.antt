use Rattle.std.proofs.Common.{◌≡◌, map, take, drop}
use Rattle.std.specs.List.{AllByRecursion}
use Rattle.ground_program.specs.Facts.{Among, IsAtom}
use Rattle.sat_translation.specs.InputMap.{placed}
use Rattle.sat_translation.proofs.mapping.places_of.Given as goal

abbrev pub invariant-loop-atom : goal.invariant-loop-atom
invariant-loop-atom l = record {
  made : l.places.items ≡ map (placed l.atoms) (take l.atom-index l.kept);
  fit : AllByRecursion (λ a. IsAtom a × Among l.atoms a) (drop l.atom-index l.kept);
}
