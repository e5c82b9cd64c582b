use Rattle.std.proofs.Common.{◌≡◌, map, take}
use Rattle.weight_rules.proofs.kept.lits_of.Given as goal

abbrev pub invariant-loop-item : goal.invariant-loop-item
invariant-loop-item l = l.lits ≡ map (λ item. item.0) (take l.item-index l.items)
