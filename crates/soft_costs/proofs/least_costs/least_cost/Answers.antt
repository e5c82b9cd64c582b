use Rattle.std.proofs.Common.{rules, ◌≡◌, ◌+◌, ◌<◌, ◌^◌, ◌+ℤ◌, drop, length, arith}
use Rattle.std.proofs.lemmas.Int.{ints}
use Rattle.symbol_map.specs.Scale.{offset_of}
use Rattle.soft_costs.proofs.ItemSteps.{offset-next}
use Rattle.soft_costs.proofs.least_costs.least_cost.Goals as goal

pub loop-item-preserved : goal.loop-item-preserved
loop-item-preserved c =
    let items = c.args.items.now in
    let i = c.loop-item.item-index in
    let x = c.item-item.result in
    let w = c.least_of_item-cost.result in
    let short : length items < 2 ^ 63 = search rules in
    let next : offset_of (drop i items) ≡ w +ℤ offset_of (drop (i + 1) items) = rw (c.least_of_item-cost.ensures.is, c.item-item.is) (offset-next items i x (omega arith)) in
    record {
      sum = omega (arith, ints, c.loop-item.invariant, next, c.least_of_item-cost.ensures.least, c.least_of_item-cost.ensures.most, short);
      least = omega (arith, ints, c.least_of_item-cost.ensures.least, c.least_of_item-cost.ensures.most, short);
      most = omega (arith, ints, c.least_of_item-cost.ensures.least, c.least_of_item-cost.ensures.most, short);
    }
