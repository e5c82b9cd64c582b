use Rattle.std.proofs.Common.{◌≡◌, ◌++◌, take}
use Rattle.std.specs.List.{flat_map}
use Rattle.symbol_map.specs.Written.{level_line}
use Rattle.symbol_map.proofs.text.push_levels.Given as goal

abbrev pub invariant-loop-level : goal.invariant-loop-level
invariant-loop-level l = l.out.items ≡ l.fn.out.items ++ flat_map level_line (take l.level-index l.levels)
