-- A 1 for each rule so far.
use Rattle.std.proofs.Common.{◌≡◌, map, take}
use Rattle.components.proofs.costs.ones.Given as goal

abbrev pub invariant-loop-rule : goal.invariant-loop-rule
invariant-loop-rule l = l.costs.items ≡ map (λ rule. 1) (take l._rule-index l.rules)
