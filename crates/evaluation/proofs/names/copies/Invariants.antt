use Rattle.std.proofs.Common.{◌≡◌, map, take}
use Rattle.evaluation.proofs.names.copies.Given as goal

abbrev pub invariant-loop-name : goal.invariant-loop-name
invariant-loop-name l = l.list.items ≡ map (λ name. name.now) (take l.name-index l.names)
