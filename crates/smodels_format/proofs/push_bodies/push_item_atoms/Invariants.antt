-- The atoms of the items so far are written.
use Rattle.std.proofs.Common.{◌≡◌, ◌++◌, take}
use Rattle.std.specs.List.{flat_map}
use Rattle.smodels_format.specs.private.Writing.{atom_piece}
use Rattle.smodels_format.proofs.push_bodies.push_item_atoms.Given as goal

abbrev pub invariant-loop-item : goal.invariant-loop-item
invariant-loop-item l = l.out.items ≡ l.fn.out.items ++ flat_map (λ item. atom_piece l.sign item.0) (take l.item-index l.items)
