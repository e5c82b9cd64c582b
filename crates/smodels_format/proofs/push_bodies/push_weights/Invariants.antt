-- The weights of the items so far are written.
use Rattle.std.proofs.Common.{◌≡◌, ◌++◌, take}
use Rattle.std.specs.List.{flat_map}
use Rattle.smodels_format.specs.private.Writing.{weight_piece}
use Rattle.smodels_format.proofs.push_bodies.push_weights.Given as goal

abbrev pub invariant-loop-item : goal.invariant-loop-item
invariant-loop-item l = l.out.items ≡ l.fn.out.items ++ flat_map (λ item. weight_piece l.sign item) (take l.item-index l.items)
