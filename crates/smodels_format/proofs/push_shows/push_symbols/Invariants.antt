-- What is written, with the lines that are left, is the whole table.
use Rattle.std.proofs.Common.{◌≡◌, ◌++◌, drop, take, length}
use Rattle.std.specs.List.{flat_map}
use Rattle.smodels_format.specs.Written.{symbol_line}
use Rattle.smodels_format.specs.private.Writing.{with_names}
use Rattle.smodels_format.proofs.push_shows.push_symbols.Given as goal

abbrev pub invariant-loop-i : goal.invariant-loop-i
invariant-loop-i l = record {
  text : l.out.items ++ flat_map symbol_line (with_names (drop l.i l.symbols) (drop l.i l.shows)) ≡ l.fn.out.items ++ flat_map symbol_line (with_names l.symbols l.shows);
  front : take (length l.fn.out.items) l.out.items ≡ l.fn.out.items;
}
