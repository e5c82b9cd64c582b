use Rattle.std.proofs.Common.{◌≡◌, ◌∙◌, ℕ, ℤ, pos, w64, true, false, List, sym, ap, subst, arith}
use Rattle.std.proofs.lemmas.Int.{to_z-of_z, to_z_pos}
use Rattle.std.proofs.lemmas.Bool.{cond-true, cond-false}
use Rattle.std.specs.Prelude.{Some, None}
use Rattle.asp_base.specs.Literal.{Literal}
use Rattle.ground_program.specs.Radix.{number_of, at_level, has_great, best_radix, next_radix, as_weight, radix}
use Rattle.ground_program.proofs.weights.radix.Goals as goal

module _ (items : List (Literal × ℤ)) (bound base : ℤ) (k b : ℕ) (is : k ≡ number_of bound) (by : b ≡ number_of base) where
  none : has_great (at_level k b items) ≡ false → None ≡ radix items bound base
  none e =
      sym (ap as_weight (cond-false (has_great (at_level k b items)) (Some (best_radix (at_level k b items))) None e))
      ∙ (ap (λ n. as_weight (next_radix items n b)) is
      ∙ ap (λ n. as_weight (next_radix items (number_of bound) n)) by)

  some : (r : ℕ) → has_great (at_level k b items) ≡ true → r ≡ best_radix (at_level k b items) → Some (pos r) ≡ radix items bound base
  some r e f =
      ap (λ n. Some (pos n)) f
      ∙ (sym (ap as_weight (cond-true (has_great (at_level k b items)) (Some (best_radix (at_level k b items))) None e))
      ∙ (ap (λ n. as_weight (next_radix items n b)) is ∙ ap (λ n. as_weight (next_radix items (number_of bound) n)) by))

pub returns-then-not-has_great : goal.returns-then-not-has_great
returns-then-not-has_great c =
    none c.args.items.now c.args.bound c.args.base c.number_of.result c.number_of-2.result
    (subst (λ z. c.number_of.result ≡ number_of z) (to_z-of_z w64 c.args.bound c.ranges.bound) c.number_of.ensures.is)
    (subst (λ z. c.number_of-2.result ≡ number_of z) (to_z-of_z w64 c.args.base c.ranges.base) c.number_of-2.ensures.is)
    (sym c.has_great.ensures ∙ c.if-not-has_great.true)

pub returns : goal.returns
returns c =
    ap Some (to_z_pos w64 c.best_radix.result (omega (arith, c.best_radix.ensures.high)))
    ∙ some c.args.items.now c.args.bound c.args.base c.number_of.result c.number_of-2.result
    (subst (λ z. c.number_of.result ≡ number_of z) (to_z-of_z w64 c.args.bound c.ranges.bound) c.number_of.ensures.is)
    (subst (λ z. c.number_of-2.result ≡ number_of z) (to_z-of_z w64 c.args.base c.ranges.base) c.number_of-2.ensures.is)
    c.best_radix.result (sym c.has_great.ensures ∙ c.if-not-has_great.false) c.best_radix.ensures.is
