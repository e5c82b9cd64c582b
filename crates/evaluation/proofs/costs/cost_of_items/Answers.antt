use Rattle.std.proofs.Common.{rules, ◌≡◌, ◌+◌, ◌<◌, ◌^◌, ℤ, ◌+ℤ◌, drop, length, arith}
use Rattle.std.proofs.lemmas.Int.{ints}
use Rattle.asp_base.specs.Literal.{Literal, literal_holds}
use Rattle.ground_program.specs.Facts.{FitsWeight}
use Rattle.ground_program.specs.Stable.{weight_of}
use Rattle.evaluation.proofs.Weights.{cond-fits, weigh-next}
use Rattle.asp_base.proofs.Each.{each-get}
use Rattle.evaluation.proofs.costs.cost_of_items.Goals as goal

pub loop-item-preserved : goal.loop-item-preserved
loop-item-preserved g c =
    let items = c.args.items.now in
    let values = g.I.Interpretation.truth c.args.truth.now in
    let i = c.loop-item.item-index in
    let x = c.item-item.result in
    let w = c.cost_of_item-cost.result in
    let short : length items < 2 ^ 63 = search rules in
    let of_item : FitsWeight x.1 = rw c.item-item.is (each-get (λ (item : Literal × ℤ). FitsWeight item.1) items i x (omega arith) c.requires) in
    let fits : FitsWeight w = rw c.cost_of_item-cost.ensures (cond-fits (literal_holds x.0 values values) x.1 of_item) in
    let next : weight_of (drop i items) values values ≡ w +ℤ weight_of (drop (i + 1) items) values values =
    rw (c.cost_of_item-cost.ensures, c.item-item.is) (weigh-next items i x values (omega arith)) in
    record {
      sum = omega (arith, ints, c.loop-item.invariant, next, fits.0, fits.1, short);
      least = omega (arith, ints, fits.0, fits.1, short);
      most = omega (arith, ints, fits.0, fits.1, short);
    }
