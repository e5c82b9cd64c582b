use Rattle.std.proofs.Common.{◌≡◌, ap, drop, arith}
use Rattle.std.proofs.lemmas.List.{drop_all}
use Rattle.symbol_map.specs.Scale.{total}
use Rattle.soft_costs.proofs.scale.magnitudes.Goals as goal

pub returns : goal.returns
returns c =
    let none : total (drop c.loop-item.item-index c.args.items.now) ≡ 0 = ap total (drop_all c.loop-item.item-index c.args.items.now (omega (arith, c.loop-item-test.false))) in
    (omega (arith, none, c.loop-item.invariant.sum, c.loop-item.invariant.fits), omega (arith, none, c.loop-item.invariant.sum))
