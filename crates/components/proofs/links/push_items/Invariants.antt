-- The edges so far, and those of the items that are left.
use Rattle.std.proofs.Common.{◌≡◌, ◌++◌, drop}
use Rattle.std.specs.List.{AllByRecursion}
use Rattle.asp_base.specs.Literal.{atom_of}
use Rattle.ground_program.specs.Facts.{Among, FitsBodyWeight}
use Rattle.ground_program.specs.Dependencies.{positives_of_items}
use Rattle.components.specs.private.Links.{edges_from}
use Rattle.components.proofs.links.push_items.Given as goal

abbrev pub invariant-loop-item : goal.invariant-loop-item
invariant-loop-item l = record {
  pushed : l.out.items ++ edges_from l.atoms l.node (positives_of_items (drop l.item-index l.items)) ≡ l.initial.out.items ++ edges_from l.atoms l.node (positives_of_items l.items);
  fit : AllByRecursion (λ item. Among l.atoms (atom_of item.0) × FitsBodyWeight item.1) (drop l.item-index l.items);
}
