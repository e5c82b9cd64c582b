-- The terms of the rules so far; the bodies of the others are such as a program has.
use Rattle.std.proofs.Common.{min, ◌^◌, ◌≡◌, map, take, drop}
use Rattle.std.specs.Bool.{⊤}
use Rattle.std.specs.List.{AllByRecursion}
use Rattle.ground_program.specs.Facts.{BodyFits}
use Rattle.ground_program.specs.Room.{term}
use Rattle.components.proofs.costs.terms.Given as goal

abbrev pub invariant-loop-rule : goal.invariant-loop-rule
invariant-loop-rule l = record {
  costs : l.costs.items ≡ map (λ rule. min (term rule) (2 ^ 63)) (take l.rule-index l.rules);
  fit : AllByRecursion (λ rule. BodyFits (λ a. ⊤) rule.body) (drop l.rule-index l.rules);
}
