use Rattle.std.proofs.Common.{◌≡◌, ◌++◌, take}
use Rattle.std.specs.List.{flat_map}
use Rattle.symbol_map.specs.Written.{show_line}
use Rattle.symbol_map.proofs.text.push_shows.Given as goal

abbrev pub invariant-loop-show : goal.invariant-loop-show
invariant-loop-show l = l.out.items ≡ l.fn.out.items ++ flat_map show_line (take l.show-index l.shows)
