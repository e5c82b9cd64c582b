-- The heads so far lead to all of them.
use Rattle.std.proofs.Common.{◌≡◌, ◌++◌, drop}
use Rattle.std.specs.List.{AllByRecursion}
use Rattle.ground_program.specs.Facts.{Among, RuleFits}
use Rattle.completion.specs.Heads.{heads_from}
use Rattle.completion.proofs.grouping.heads.Given as goal

abbrev pub invariant-loop-i : goal.invariant-loop-i
invariant-loop-i l = record {
  pushed : l.pairs.items ++ heads_from l.atoms l.i (drop l.i l.rules) ≡ heads_from l.atoms 0 l.rules;
  fit : AllByRecursion (RuleFits (Among l.atoms)) (drop l.i l.rules);
}
