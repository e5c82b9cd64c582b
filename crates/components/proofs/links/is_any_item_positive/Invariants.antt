-- No literal so far is positive.
use Rattle.std.proofs.Common.{◌≡◌, drop}
use Rattle.ground_program.specs.Dependencies.{positives_of_items}
use Rattle.components.proofs.links.is_any_item_positive.Given as goal

abbrev pub invariant-loop-item : goal.invariant-loop-item
invariant-loop-item l = positives_of_items (drop l.item-index l.items) ≡ positives_of_items l.items
