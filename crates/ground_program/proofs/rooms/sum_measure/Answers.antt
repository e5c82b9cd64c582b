use Rattle.std.proofs.Common.{◌≡◌, ◌∙◌, ◌^◌, ℕ, min, w64, sym, ap, subst, arith}
use Rattle.std.proofs.lemmas.Int.{to_z-of_z}
use Rattle.std.specs.Prelude.{true, false, leb}
use Rattle.ground_program.specs.Radix.{number_of, cut_weights, total}
use Rattle.ground_program.specs.Room.{items_measure, sum_measure}
use Rattle.ground_program.proofs.RoomLaws.{sum-unasked, sum-unreached, sum-reached}
use Rattle.ground_program.proofs.rooms.sum_measure.Goals as goal

nothing : (m : ℕ) → m ≡ 0 → 0 ≡ min m (2 ^ 63)
nothing m e = omega arith

pub returns-then-k-eq0 : goal.returns-then-k-eq0
returns-then-k-eq0 c =
    let is : c.number_of-k.result ≡ number_of c.args.bound =
    subst (λ b. c.number_of-k.result ≡ number_of b) (to_z-of_z w64 c.args.bound c.ranges.bound)
    c.number_of-k.ensures.is in
    nothing (sum_measure c.args.bound c.args.items.now)
    (sum-unasked c.args.bound c.args.items.now (sym is ∙ c.if-k-eq0.true))

pub returns-then-not-total_reaches : goal.returns-then-not-total_reaches
returns-then-not-total_reaches c =
    let is : c.number_of-k.result ≡ number_of c.args.bound =
    subst (λ b. c.number_of-k.result ≡ number_of b) (to_z-of_z w64 c.args.bound c.ranges.bound)
    c.number_of-k.ensures.is in
    nothing (sum_measure c.args.bound c.args.items.now)
    (sum-unreached c.args.bound c.args.items.now
    (subst (λ k. leb k (total (cut_weights k c.args.items.now)) ≡ false) is
    (sym c.total_reaches.ensures ∙ c.if-not-total_reaches.true)))

pub returns : goal.returns
returns c =
    let is : c.number_of-k.result ≡ number_of c.args.bound =
    subst (λ b. c.number_of-k.result ≡ number_of b) (to_z-of_z w64 c.args.bound c.ranges.bound)
    c.number_of-k.ensures.is in
    let e : sum_measure c.args.bound c.args.items.now
    ≡ items_measure (number_of c.args.bound) (cut_weights (number_of c.args.bound) c.args.items.now) =
    sum-reached c.args.bound c.args.items.now (λ z. c.if-k-eq0.false (is ∙ z))
    (subst (λ k. leb k (total (cut_weights k c.args.items.now)) ≡ true) is
    (sym c.total_reaches.ensures ∙ c.if-not-total_reaches.false)) in
    c.items_measure.ensures
    ∙ ap (λ k. min (items_measure k (cut_weights k c.args.items.now)) (2 ^ 63)) is
    ∙ ap (λ n. min n (2 ^ 63)) (sym e)
