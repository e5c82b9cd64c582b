use Rattle.std.proofs.Common.{◌≡◌, ◌+◌, ◌^◌, ◌<◌, drop}
use Rattle.symbol_map.specs.Scale.{total}
use Rattle.soft_costs.proofs.scale.magnitudes.Given as goal

abbrev pub invariant-loop-item : goal.invariant-loop-item
invariant-loop-item l = record {
  sum : l.sum + total (drop l.item-index l.items) ≡ total l.items;
  fits : l.sum < 2 ^ 64;
}
