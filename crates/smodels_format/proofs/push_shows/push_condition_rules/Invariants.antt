-- What is written, with the rules that are left, is all of the rules.
use Rattle.std.proofs.Common.{◌≡◌, ◌++◌, drop, take, length}
use Rattle.std.specs.List.{flat_map}
use Rattle.smodels_format.specs.Written.{rule_line}
use Rattle.smodels_format.specs.private.Writing.{condition_rules}
use Rattle.smodels_format.proofs.push_shows.push_condition_rules.Given as goal

abbrev pub invariant-loop-i : goal.invariant-loop-i
invariant-loop-i l = record {
  text : l.out.items ++ flat_map rule_line (condition_rules (drop l.i l.symbols) (drop l.i l.shows)) ≡ l.fn.out.items ++ flat_map rule_line (condition_rules l.symbols l.shows);
  front : take (length l.fn.out.items) l.out.items ≡ l.fn.out.items;
}
