use Rattle.std.proofs.Common.{◌≡◌, ◌++◌, drop}
use Rattle.ground_program.specs.Occurrences.{atoms_of_items}
use Rattle.ground_program.proofs.gather.push_items.Given as goal

abbrev pub invariant-loop-item : goal.invariant-loop-item
invariant-loop-item l = l.out.items ++ atoms_of_items (drop l.item-index l.items) ≡ l.initial.out.items ++ atoms_of_items l.items
