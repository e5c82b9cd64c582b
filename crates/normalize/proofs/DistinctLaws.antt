-- Lists without repetition.
use Rattle.std.proofs.Common.{◌≡◌, refl, sym, subst, ℕ, ◌<◌, ◌≤◌, ◌==◌, Bool, true, false, List, [], ◌∷◌, ◌++◌, arith}
use Rattle.std.specs.List.{AllByRecursion, IsDistinct}
use Rattle.std.proofs.lemmas.Bool.{or_left, or_right, eq-eqb, ne_eqb}
use Rattle.std.proofs.lemmas.Map.Keys.{IsDistinct-cons, IsDistinct-head, IsDistinct-tail}
use Rattle.asp_base.specs.Sets.{members}
use Rattle.asp_base.proofs.Each.{each-append}
use Rattle.tangle_laws.proofs.PartDistinct.{Distinct}
use Rattle.rising_numbers.specs.Rising.{RisesFrom}

abbrev test : ℕ → ℕ → Bool
test a b = a == b

pub distinct-none : Distinct []
unfolding IsDistinct
distinct-none = tt

pub members-each : (xs : List ℕ) (P : ℕ → Type 0) → ((a : ℕ) → members xs a ≡ true → P a)
    → AllByRecursion P xs
members-each [] P h = tt
members-each (x ∷ xs) P h =
    (h x (or_left _ _ (eq-eqb x x refl)), members-each xs P (λ a m. h a (or_right (x == a) _ m)))

pub distinct-append : (xs ys : List ℕ) → Distinct xs → Distinct ys
    → ((a : ℕ) → members xs a ≡ true → members ys a ≡ true → ⊥) → Distinct (xs ++ ys)
distinct-append [] ys d e h = e
distinct-append (x ∷ xs) ys d e h =
    IsDistinct-cons test x (xs ++ ys)
    (each-append _ xs ys (IsDistinct-head test x xs d)
    (members-each ys _ (λ a m. ne_eqb x a
    (λ q. h x (or_left _ _ (eq-eqb x x refl)) (subst (λ b. members ys b ≡ true) (sym q) m)))))
    (distinct-append xs ys (IsDistinct-tail test x xs d) e
    (λ a m n. h a (or_right (x == a) _ m) n))

-- ---- rising lists

differ-above : (x low : ℕ) (xs : List ℕ) → x ≤ low → RisesFrom low xs
    → AllByRecursion (λ y. (x == y) ≡ false) xs
differ-above x low [] l r = tt
differ-above x low (y ∷ ys) l r = (
  ne_eqb x y (λ e. let h : low < y = r.0 in absurd (omega arith)),
  differ-above x y ys (let h : low < y = r.0 in omega arith) r.1,
)

pub rises-distinct : (low : ℕ) (xs : List ℕ) → RisesFrom low xs → Distinct xs
rises-distinct low [] r = distinct-none
rises-distinct low (x ∷ xs) r =
    IsDistinct-cons test x xs (differ-above x x xs (omega arith) r.1) (rises-distinct x xs r.1)
