use Rattle.std.proofs.Common.{◌≡◌, ◌∙◌, ◌+◌, ◌*◌, ◌/◌, ◌<◌, ◌≤◌, ◌^◌, ℕ, min, true, false, sym, ap, subst, arith, rules}
use Rattle.std.proofs.lemmas.Nat.{mul-le, div_below}
use Rattle.std.proofs.Math.Nat.{le-mul_of_pos_right}
use Rattle.ground_program.specs.Radix.{at_level, has_great, total}
use Rattle.ground_program.specs.Room.{network_measure, levels_measure}
use Rattle.ground_program.proofs.RadixLaws.{at-next, great-base, none-rest, tare-below, bound-less, total-falls}
use Rattle.ground_program.proofs.RoomLaws.{levels-top, levels-say}
use Rattle.ground_program.proofs.rooms.+levels_measure.Goals as goal

pub returns-then-not-has_great : goal.returns-then-not-has_great
returns-then-not-has_great t c = λ levels h.
    let none : has_great (at_level c.args.below.bound c.args.below.base c.args.items.now) ≡ false =
    sym c.has_great.ensures ∙ c.if-not-has_great.true in
    let r : c.rest_sum.result ≡ total (at_level c.args.below.bound c.args.below.base c.args.items.now) =
    c.rest_sum.ensures.is
    ∙ none-rest (at_level c.args.below.bound c.args.below.base c.args.items.now) none in
    let e : c.network_measure.result
    ≡ levels_measure levels c.args.bound
    (at_level c.args.below.bound c.args.below.base c.args.items.now) c.args.carries =
    c.network_measure.ensures.is
    ∙ (ap (λ n. network_measure (n + c.args.carries)) r
    ∙ sym (levels-top levels c.args.bound c.args.carries
    (at_level c.args.below.bound c.args.below.base c.args.items.now) none)) in
    same c.network_measure.result
    (levels_measure levels c.args.bound
    (at_level c.args.below.bound c.args.below.base c.args.items.now) c.args.carries)
    e c.network_measure.ensures.small
  where
    same : (m n : ℕ) → m ≡ n → m ≤ 2 ^ 63 → m ≡ min n (2 ^ 63)
    same m n e l = omega arith

pub overflow_mul-next : goal.overflow_mul-next
overflow_mul-next t c =
    let great : has_great (at_level c.args.below.bound c.args.below.base c.args.items.now) ≡ true =
    sym c.has_great.ensures ∙ c.if-not-has_great.false in
    let b : 8 * c.args.below.base ≤ c.args.below.bound =
    great-base c.args.below.bound c.args.below.base c.args.items.now great in
    let l : c.args.below.base * c.best_radix-radix.result ≤ c.args.below.base * 8 =
    mul-le c.args.below.base c.best_radix-radix.result c.args.below.base 8
    (omega arith) c.best_radix-radix.ensures.high in
    let fits : c.args.below.base * c.best_radix-radix.result < 2 ^ 64 = omega (arith, c.requires.cap) in
    search (rules, fits)

pub levels_measure-above-requires : goal.levels_measure-above-requires
levels_measure-above-requires t c =
    let o : 0 < c.best_radix-radix.result = omega (arith, c.best_radix-radix.ensures.low) in
    let great : has_great (at_level c.args.below.bound c.args.below.base c.args.items.now) ≡ true =
    sym c.has_great.ensures ∙ c.if-not-has_great.false in
    let f : total (at_level c.args.below.bound (c.args.below.base * c.best_radix-radix.result) c.args.items.now)
    < total (at_level c.args.below.bound c.args.below.base c.args.items.now) =
    subst (λ xs. total xs < total (at_level c.args.below.bound c.args.below.base c.args.items.now))
    (at-next c.args.below.bound c.args.below.base c.best_radix-radix.result c.args.items.now)
    (total-falls c.best_radix-radix.result
    (at_level c.args.below.bound c.args.below.base c.args.items.now)
    c.best_radix-radix.ensures.low great) in
    let b : c.tare-tare.result < c.best_radix-radix.result =
    subst (λ x. x < c.best_radix-radix.result) (sym c.tare-tare.ensures)
    (tare-below c.args.bound c.best_radix-radix.result o) in
    let l : (c.args.bound + c.tare-tare.result) / c.best_radix-radix.result ≤ c.args.bound =
    bound-less c.args.bound c.tare-tare.result c.best_radix-radix.result o b in
    let p : c.args.below.base ≤ c.args.below.base * c.best_radix-radix.result =
    le-mul_of_pos_right c.args.below.base o in
    let n : (c.rest_sum-2.result + c.args.carries + c.tare-tare.result) / c.best_radix-radix.result < 2 ^ 28 =
    div_below (c.rest_sum-2.result + c.args.carries + c.tare-tare.result) c.best_radix-radix.result (2 ^ 28) o
    (omega (
      arith,
      c.rest_sum-2.ensures.most,
      c.requires.short,
      c.requires.carries,
      c.best_radix-radix.ensures.low,
      c.best_radix-radix.ensures.high,
    )) in
    (omega arith, (omega (arith, c.requires.base), (c.requires.cap, (c.requires.short, (omega (arith, c.requires.bound), n)))))

pub returns : goal.returns
returns t c = λ levels h.
    c.joined.ensures
    ∙ levels-say levels c.args.bound c.args.carries c.best_radix-radix.result c.tare-tare.result
    c.rest_sum-2.result c.network_measure-2.result c.levels_measure-above.result
    (at_level c.args.below.bound c.args.below.base c.args.items.now)
    (at_level c.args.below.bound (c.args.below.base * c.best_radix-radix.result) c.args.items.now)
    (sym c.has_great.ensures ∙ c.if-not-has_great.false) c.best_radix-radix.ensures.low
    c.best_radix-radix.ensures.is c.tare-tare.ensures c.rest_sum-2.ensures.is
    c.network_measure-2.ensures.is
    (at-next c.args.below.bound c.args.below.base c.best_radix-radix.result c.args.items.now)
    c.levels_measure-above.ensures h
