use Rattle.std.proofs.Common.{◌≡◌, ◌*◌, ◌^◌, pos, neg_ℤ, ◌+ℤ◌, ◌≤ℤ◌, drop}
use Rattle.symbol_map.specs.Scale.{offset_of}
use Rattle.soft_costs.proofs.least_costs.least_cost.Given as goal

abbrev pub invariant-loop-item : goal.invariant-loop-item
invariant-loop-item l = record {
  sum : l.cost +ℤ offset_of (drop l.item-index l.items) ≡ offset_of l.items;
  least : neg_ℤ (pos (2 ^ 63 * l.item-index)) ≤ℤ l.cost;
  most : l.cost ≤ℤ pos 0;
}
