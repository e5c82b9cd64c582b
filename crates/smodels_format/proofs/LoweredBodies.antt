-- A body with its negative literals first, and with a bound of at least 0, holds where the body does.
use Rattle.asp_base.proofs.Each.{each-append, each-filter}
use Rattle.smodels_format.proofs.Parted.{list_all-parted}
use Rattle.std.proofs.Common.{◌≡◌, ◌∙◌, ap, ℤ, pos, ◌+ℤ◌, ◌≤ℤ◌, int_le, Bool, true, false, cond, not, List, [], ◌∷◌, ◌++◌, filter, arith}
use Rattle.std.specs.List.{AllByRecursion}
use Rattle.std.proofs.lemmas.Int.{ints}
use Rattle.asp_base.specs.Literal.{Literal, literal_holds, is_positive, all_hold}
use Rattle.asp_base.specs.Sets.{Set}
use Rattle.ground_program.specs.Closed.{HasWeights}
use Rattle.ground_program.specs.Stable.{weight_of, holds}
use Rattle.ground_program.specs.declared.program.Body.{Body}
use Rattle.ground_program.specs.declared.program.Body.TheVariants.{All, Sum}
use Rattle.smodels_format.specs.Lowering.{negatives_first, items_negatives_first, at_least_zero, body_in_order}

pub all_hold-in_order : (lits : List Literal) (X M : Set) → all_hold (negatives_first lits) X M ≡ all_hold lits X M
all_hold-in_order lits X M = list_all-parted is_positive (λ l. literal_holds l X M) lits

-- ---- sums

pub weight_of-append : (xs ys : List (Literal × ℤ)) (X M : Set) → weight_of (xs ++ ys) X M ≡ (weight_of xs X M +ℤ weight_of ys X M)
weight_of-append [] ys X M = omega (arith, ints)
weight_of-append (x ∷ xs) ys X M = let ih : weight_of (xs ++ ys) X M ≡ (weight_of xs X M +ℤ weight_of ys X M) = weight_of-append xs ys X M in omega (arith, ints)

weight_of-parts : (test : Literal × ℤ → Bool) (items : List (Literal × ℤ)) (X M : Set) → (weight_of (filter (λ x. not (test x)) items) X M +ℤ weight_of (filter test items) X M) ≡ weight_of items X M
weight_of-parts test [] X M = omega (arith, ints)
weight_of-parts test (x ∷ xs) X M = go (test x) (filter (λ y. not (test y)) xs) (filter test xs) (weight_of-parts test xs X M)
  where
    go : (b : Bool) (us vs : List (Literal × ℤ)) → (weight_of us X M +ℤ weight_of vs X M) ≡ weight_of xs X M → (weight_of (cond (not b) (x ∷ us) us) X M +ℤ weight_of (cond b (x ∷ vs) vs) X M) ≡ weight_of (x ∷ xs) X M
    go true us vs h = omega (arith, ints)
    go false us vs h = omega (arith, ints)

pub weight_of-in_order : (items : List (Literal × ℤ)) (X M : Set) → weight_of (items_negatives_first items) X M ≡ weight_of items X M
weight_of-in_order items X M =
    weight_of-append (filter (λ item. not (is_positive item.0)) items) (filter (λ item. is_positive item.0) items) X M ∙ weight_of-parts (λ item. is_positive item.0) items X M

at_least-sum : (b : Bool) (w s : ℤ) → pos 0 ≤ℤ w → pos 0 ≤ℤ s → pos 0 ≤ℤ (cond b w (pos 0) +ℤ s)
at_least-sum true w s h k = omega (arith, ints)
at_least-sum false w s h k = omega (arith, ints)

weight_of-at_least : (items : List (Literal × ℤ)) (X M : Set) → AllByRecursion (λ item. pos 0 ≤ℤ item.1) items → pos 0 ≤ℤ weight_of items X M
weight_of-at_least [] X M h = omega (arith, ints)
weight_of-at_least (item ∷ items) X M h = at_least-sum (literal_holds item.0 X M) item.1 _ h.0 (weight_of-at_least items X M h.1)

-- a sum that is not negative reaches each bound below 0
reaches-zero : (bound s : ℤ) → pos 0 ≤ℤ s → int_le (at_least_zero bound) s ≡ int_le bound s
reaches-zero bound s h = grind (arith, ints)

-- ---- bodies

pub holds-in_order : (body : Body) (X M : Set) → HasWeights body → holds (body_in_order body) X M ≡ holds body X M
holds-in_order (All lits) X M w = all_hold-in_order lits X M
holds-in_order (Sum bound items) X M w =
    ap (int_le (at_least_zero bound)) (weight_of-in_order items X M) ∙ reaches-zero bound (weight_of items X M) (weight_of-at_least items X M w)

pub weights-in_order : (body : Body) → HasWeights body → HasWeights (body_in_order body)
weights-in_order (All lits) w = tt
weights-in_order (Sum bound items) w =
    each-append _ (filter (λ item. not (is_positive item.0)) items) (filter (λ item. is_positive item.0) items) (each-filter _ _ items w) (each-filter _ _ items w)
