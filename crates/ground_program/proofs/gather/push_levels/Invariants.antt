use Rattle.std.proofs.Common.{◌≡◌, ◌++◌, drop}
use Rattle.std.specs.List.{flat_map}
use Rattle.ground_program.specs.Occurrences.{atoms_of_items}
use Rattle.ground_program.proofs.gather.push_levels.Given as goal

abbrev pub invariant-loop-level : goal.invariant-loop-level
invariant-loop-level l = l.out.items ++ flat_map (λ level. atoms_of_items level.items) (drop l.level-index l.levels) ≡ l.initial.out.items ++ flat_map (λ level. atoms_of_items level.items) l.levels
