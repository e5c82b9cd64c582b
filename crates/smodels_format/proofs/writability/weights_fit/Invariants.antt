-- What is true of the weights that are left is true of all.
use Rattle.std.proofs.Common.{◌≡◌, drop, pos, int_le}
use Rattle.std.specs.List.{list_all}
use Rattle.smodels_format.proofs.writability.weights_fit.Given as goal

abbrev pub invariant-loop-item : goal.invariant-loop-item
invariant-loop-item l = list_all (λ item. int_le (pos 0) item.1) (drop l.item-index l.items) ≡ list_all (λ item. int_le (pos 0) item.1) l.items
