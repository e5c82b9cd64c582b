use Rattle.std.proofs.Common.{◌*◌, ◌≤◌, arith, mul-le-mul_left}
use Rattle.std.specs.Prelude.{nat_abs}
use Rattle.symbol_map.specs.Scale.{total}
use Rattle.soft_costs.proofs.ItemSteps.{total-item}
use Rattle.soft_costs.proofs.softening.push_items.Goals as goal

pub push_item-requires-clause-below : goal.push_item-requires-clause-below
push_item-requires-clause-below c =
    let items = c.args.items.now in
    let x = c.item-item.result in
    let most : nat_abs x.1 ≤ total items = rw c.item-item.is (total-item items c.loop-item.item-index x (omega arith)) in
    let times : c.args.factor * nat_abs x.1 ≤ c.args.factor * total items = mul-le-mul_left c.args.factor most in
    omega (arith, times, c.requires.below)
