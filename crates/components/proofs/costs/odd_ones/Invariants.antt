-- The oddness of the rules so far.
use Rattle.std.proofs.Common.{◌≡◌, map, take}
use Rattle.components.specs.private.Adding.{oddness}
use Rattle.components.proofs.costs.odd_ones.Given as goal

abbrev pub invariant-loop-rule : goal.invariant-loop-rule
invariant-loop-rule l = l.costs.items ≡ map oddness (take l.rule-index l.rules)
