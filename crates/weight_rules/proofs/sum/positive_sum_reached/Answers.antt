use Rattle.std.proofs.Common.{◌≡◌, ◌∙◌, ◌≤◌, ◌<◌, ℕ, pos, refl, sym, ap, subst, leb, true, length, arith}
use Rattle.std.proofs.lemmas.Int.{ints}
use Rattle.std.proofs.lemmas.Result.{IfOk-from_err}
use Rattle.std.proofs.lemmas.Bool.{leb-true}
use Rattle.ground_program.specs.Radix.{cut_weights, total}
use Rattle.ground_program.specs.Room.{items_measure}
use Rattle.ground_program.specs.private.Levels.{AreCut}
use Rattle.ground_program.proofs.RoomLaws.{weights-cut, sum-reached}
use Rattle.rule_network.specs.Block.{Adds, Defines, HasRoom}
use Rattle.weight_rules.specs.private.Kept.{ItemsKnown}
use Rattle.weight_rules.specs.private.Levels.{held, truths}
use Rattle.weight_rules.proofs.KeptLaws.{weights-known, weights-short}
use Rattle.weight_rules.proofs.SignedLaws.{weights-below, weights-enough, weights-say, unchanged-adds}
use Rattle.weight_rules.proofs.sum.positive_sum_reached.Goals as goal

positive : (n : ℕ) → 0 < n → n ≡ 0 → ⊥
positive n o e = omega arith

pub returns-in_err-kept-clause-adds : goal.returns-in_err-kept-clause-adds
returns-in_err-kept-clause-adds c = IfOk-from_err c.from_residual.result _ c.from_residual.ensures.0

pub total_reaches-requires-clause-cut : goal.total_reaches-requires-clause-cut
total_reaches-requires-clause-cut c =
    subst (AreCut c.args.bound) (sym (c.as_slice.ensures.value ∙ c.in_ok-kept.ensures))
    (weights-cut c.args.bound c.args.items.now c.requires.positive)

pub returns-then-not-total_reaches-clause-reaches :
    goal.returns-then-not-total_reaches-clause-reaches
returns-then-not-total_reaches-clause-reaches c = (
  omega (arith, ints, c.requires.positive),
  weights-below c.args.bound c.args.items.now c.requires.weights
      (ap (λ xs. leb c.args.bound (total xs))
      (sym (c.as_slice.ensures.value ∙ c.in_ok-kept.ensures))
      ∙ (sym c.total_reaches.ensures ∙ c.if-not-total_reaches.true)),
  refl,
)

pub returns-then-not-total_reaches-clause-adds : goal.returns-then-not-total_reaches-clause-adds
returns-then-not-total_reaches-clause-adds c = unchanged-adds _ _ c.args.net.now

pub cut_sum_reached-requires-clause-cut : goal.cut_sum_reached-requires-clause-cut
cut_sum_reached-requires-clause-cut c = c.as_mut_slice.ensures.value ∙ c.in_ok-kept.ensures

pub cut_sum_reached-requires-clause-enough : goal.cut_sum_reached-requires-clause-enough
cut_sum_reached-requires-clause-enough c =
    subst (λ xs. c.args.bound ≤ total xs)
    (c.as_slice.ensures.value ∙ sym c.as_mut_slice.ensures.value)
    (leb-true c.args.bound (total c.as_slice.result.now)
    (sym c.total_reaches.ensures ∙ c.if-not-total_reaches.false))

pub cut_sum_reached-requires-clause-short : goal.cut_sum_reached-requires-clause-short
cut_sum_reached-requires-clause-short c =
    let l : length (cut_weights c.args.bound c.args.items.now) ≤ length c.args.items.now =
    weights-short c.args.bound c.args.items.now in
    subst (λ xs. length xs ≤ 16777216) (sym (c.as_mut_slice.ensures.value ∙ c.in_ok-kept.ensures))
    (omega (arith, c.requires.short))

pub cut_sum_reached-requires-clause-room : goal.cut_sum_reached-requires-clause-room
cut_sum_reached-requires-clause-room c =
    let reached : leb c.args.bound (total (cut_weights c.args.bound c.args.items.now)) ≡ true =
    ap (λ xs. leb c.args.bound (total xs)) (sym (c.as_slice.ensures.value ∙ c.in_ok-kept.ensures))
    ∙ (sym c.total_reaches.ensures ∙ c.if-not-total_reaches.false) in
    subst (λ xs. HasRoom (items_measure c.args.bound xs) c.args.net.now)
    (sym (c.as_mut_slice.ensures.value ∙ c.in_ok-kept.ensures))
    (subst (λ m. HasRoom m c.args.net.now)
    (sum-reached (pos c.args.bound) c.args.items.now (positive c.args.bound c.requires.positive)
    reached) c.requires.room)

pub cut_sum_reached-requires-clause-items : goal.cut_sum_reached-requires-clause-items
cut_sum_reached-requires-clause-items c =
    subst (ItemsKnown c.args.net.now) (sym (c.as_mut_slice.ensures.value ∙ c.in_ok-kept.ensures))
    (weights-known c.args.net.now c.args.bound c.args.items.now c.requires.known)

pub returns-in_err-lit-clause-adds : goal.returns-in_err-lit-clause-adds
returns-in_err-lit-clause-adds c =
    IfOk-from_err c.from_residual-in_err-lit.result _ c.from_residual-in_err-lit.ensures.0

pub returns-clause-reaches : goal.returns-clause-reaches
returns-clause-reaches c = (
  omega (arith, ints, c.requires.positive),
  weights-enough c.args.bound c.args.items.now c.requires.weights
      (ap (λ xs. leb c.args.bound (total xs))
      (sym (c.as_slice.ensures.value ∙ c.in_ok-kept.ensures))
      ∙ (sym c.total_reaches.ensures ∙ c.if-not-total_reaches.false)),
  weights-say c.args.net.now c.cut_sum_reached.new.net c.in_ok-lit.lit c.args.bound c.args.items.now
      c.requires.weights
      (subst
      (λ xs. Defines c.args.net.now c.cut_sum_reached.new.net c.in_ok-lit.lit
      (λ X M. leb c.args.bound (held (truths c.args.net.now X M xs))))
      (c.as_mut_slice.ensures.value ∙ c.in_ok-kept.ensures) c.in_ok-lit.ensures.reaches),
)

pub returns-clause-adds : goal.returns-clause-adds
returns-clause-adds c =
    let reached : leb c.args.bound (total (cut_weights c.args.bound c.args.items.now)) ≡ true =
    ap (λ xs. leb c.args.bound (total xs)) (sym (c.as_slice.ensures.value ∙ c.in_ok-kept.ensures))
    ∙ (sym c.total_reaches.ensures ∙ c.if-not-total_reaches.false) in
    subst (λ m. Adds m m c.args.net.now c.cut_sum_reached.new.net)
    (sym
    (sum-reached (pos c.args.bound) c.args.items.now (positive c.args.bound c.requires.positive)
    reached))
    (subst
    (λ xs. Adds (items_measure c.args.bound xs) (items_measure c.args.bound xs) c.args.net.now
    c.cut_sum_reached.new.net)
    (c.as_mut_slice.ensures.value ∙ c.in_ok-kept.ensures) c.in_ok-lit.ensures.adds)
