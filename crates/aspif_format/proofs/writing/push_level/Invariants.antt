use Rattle.std.proofs.Common.{◌≡◌, ◌++◌, length, take}
use Rattle.std.specs.List.{flat_map}
use Rattle.aspif_format.specs.Written.{level_line, level_lines, parts}
use Rattle.aspif_format.proofs.writing.push_level.Given as goal

abbrev pub invariant-loop-rest : goal.invariant-loop-rest
invariant-loop-rest l = record {
  whole : l.out.items ++ flat_map (level_line l.level.priority) (parts l.rest) ≡ l.fn.out.items ++ level_lines l.level;
  front : take (length l.fn.out.items) l.out.items ≡ l.fn.out.items;
}

abbrev pub decreases-loop-rest : goal.decreases-loop-rest
decreases-loop-rest l = length l.rest
