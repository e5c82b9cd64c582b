-- What is written, with the lines of the levels that are left, is all of the lines.
use Rattle.std.proofs.Common.{◌≡◌, ◌++◌, map, reverse, take, length}
use Rattle.std.specs.List.{flat_map}
use Rattle.smodels_format.specs.Lowering.{items_negatives_first}
use Rattle.smodels_format.specs.Written.{sum_line}
use Rattle.smodels_format.proofs.push_shows.push_levels.Given as goal

abbrev pub invariant-loop-i : goal.invariant-loop-i
invariant-loop-i l = record {
  text : l.out.items ++ flat_map sum_line (map (λ level. items_negatives_first level.items) (reverse (take l.i l.levels)))
      ≡ l.fn.out.items ++ flat_map sum_line (map (λ level. items_negatives_first level.items) (reverse l.levels));
  front : take (length l.fn.out.items) l.out.items ≡ l.fn.out.items;
}
