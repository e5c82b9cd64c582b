use Rattle.std.proofs.Common.{◌≡◌, ◌++◌, take}
use Rattle.std.specs.List.{flat_map}
use Rattle.aspif_format.specs.Written.{level_lines}
use Rattle.aspif_format.proofs.writing.push_levels.Given as goal

abbrev pub invariant-loop-level : goal.invariant-loop-level
invariant-loop-level l = l.out.items ≡ l.fn.out.items ++ flat_map level_lines (take l.level-index l.levels)
