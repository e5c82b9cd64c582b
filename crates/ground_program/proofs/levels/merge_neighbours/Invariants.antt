use Rattle.std.proofs.Common.{◌^◌, []}
use Rattle.std.specs.Prelude.{pos}
use Rattle.std.specs.Vec.Iter.{into_iter_items}
use Rattle.ground_program.specs.Draft.{levels_onto}
use Rattle.ground_program.proofs.LevelLaws.{Merged}
use Rattle.ground_program.proofs.levels.merge_neighbours.Given as goal

abbrev pub invariant-loop-level : goal.invariant-loop-level
invariant-loop-level l = Merged (pos (2 ^ 31)) l.merged.items (into_iter_items l.level-iterator) (levels_onto [] l.fn.sorted.items)
