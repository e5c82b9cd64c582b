use Rattle.statement_fields.specs.Fields.{item}
use Rattle.statement_fields.specs.private.Weights.{weight_field, ItemFits}
use Rattle.statement_fields.proofs.SoFar.{SoFar}
use Rattle.statement_fields.proofs.lists.many_items.Given as goal

abbrev pub invariant-loop-i : goal.invariant-loop-i
invariant-loop-i l = SoFar (item (weight_field l.weights)) (ItemFits l.weights) l.n l._i l.initial.scan l.scan l.items
