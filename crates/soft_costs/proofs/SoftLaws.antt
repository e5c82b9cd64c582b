-- What soft clauses cost is what the levels cost above their least, joined.
use Rattle.std.proofs.Common.{◌≡◌, refl, sym, ◌∙◌, ap, ap₂, ℕ, zero, suc, ◌+◌, ◌*◌, ◌≤◌, ◌<◌, ◌↔◌, Bool, true, false, not, cond, ◌||◌, List, [], ◌∷◌, ◌++◌, map, ⊎_elim, inl, inr, arith, mul-add, mul-one, subst₂}
use Rattle.std.specs.Prelude.{ℤ, pos, negsuc, ◌+ℤ◌, ◌-ℤ◌, ◌*ℤ◌, ◌<ℤ◌, int_lt, nat_abs}
use Rattle.std.proofs.lemmas.Bool.{cond-false, le-ltb}
use Rattle.std.proofs.lemmas.Int.{ints}
use Rattle.asp_base.specs.Literal.{Literal, Pos, Neg, negation, literal_holds}
use Rattle.asp_base.specs.Sets.{Set}
use Rattle.symbol_map.specs.Scale.{total, scale_of, offset_of, joined_cost, IsCheaper}
use Rattle.ground_program.specs.Stable.{weight_of, costs_of}
use Rattle.ground_program.specs.declared.program.Level.{Level}
use Rattle.clause_store.specs.Models.{is_true, soft_cost}
use Rattle.clause_store.specs.Soft.{weights_of}
use Rattle.clause_store.specs.declared.formula.SoftClause.{SoftClause}
use Rattle.soft_costs.specs.Softening.{soft_of_item, soft_of_items, soft_of}
use Rattle.soft_costs.proofs.ScaleLaws.{joined, Fit, IsLess, joined-order}

-- ---- sums over soft clauses

pub soft_cost-append : (xs ys : List SoftClause) (A : Set) → soft_cost (xs ++ ys) A ≡ soft_cost xs A + soft_cost ys A
soft_cost-append [] ys A = omega arith
soft_cost-append (x ∷ xs) ys A = let ih : soft_cost (xs ++ ys) A ≡ soft_cost xs A + soft_cost ys A = soft_cost-append xs ys A in omega arith

pub weights_of-append : (xs ys : List SoftClause) → weights_of (xs ++ ys) ≡ weights_of xs + weights_of ys
weights_of-append [] ys = omega arith
weights_of-append (x ∷ xs) ys = let ih : weights_of (xs ++ ys) ≡ weights_of xs + weights_of ys = weights_of-append xs ys in omega arith

-- ---- an item

-- what an item costs above the least that it may cost
abbrev pub excess_of_item : Literal → ℤ → Set → ℕ
excess_of_item l (pos n) A = cond (is_true l A) n 0
excess_of_item l (negsuc n) A = cond (is_true l A) 0 (suc n)

not-not : (b : Bool) → b ≡ not (not b)
not-not true = refl
not-not false = refl

is_true-negation : (l : Literal) (A : Set) → is_true (negation l) A ≡ not (is_true l A)
is_true-negation (Pos a) A = refl
is_true-negation (Neg a) A = not-not (A a)

paid-true : (b : Bool) (f n : ℕ) → cond (not b || false) 0 (f * suc n) + 0 ≡ f * cond b (suc n) 0
paid-true true f n = omega arith
paid-true false f n = omega arith

paid-false : (b : Bool) (f n : ℕ) → cond (b || false) 0 (f * suc n) + 0 ≡ f * cond b 0 (suc n)
paid-false true f n = omega arith
paid-false false f n = omega arith

nothing-paid : (b : Bool) (f : ℕ) → 0 ≡ f * cond b 0 0
nothing-paid true f = omega arith
nothing-paid false f = omega arith

soft_cost-item : (f : ℕ) (l : Literal) (w : ℤ) (A : Set) → soft_cost (soft_of_item f l w) A ≡ f * excess_of_item l w A
soft_cost-item f l (pos zero) A = nothing-paid (is_true l A) f
soft_cost-item f l (pos (suc n)) A = ap (λ b. cond (b || false) 0 (f * suc n) + 0) (is_true-negation l A) ∙ paid-true (is_true l A) f n
soft_cost-item f l (negsuc n) A = paid-false (is_true l A) f n

excess-most : (l : Literal) (w : ℤ) (A : Set) → excess_of_item l w A ≤ nat_abs w
excess-most l (pos n) A = go (is_true l A)
  where
    go : (b : Bool) → cond b n 0 ≤ n
    go true = omega arith
    go false = omega arith
excess-most l (negsuc n) A = go (is_true l A)
  where
    go : (b : Bool) → cond b 0 (suc n) ≤ suc n
    go true = omega arith
    go false = omega arith

excess-item : (l : Literal) (w : ℤ) (A : Set) → pos (excess_of_item l w A) ≡ cond (literal_holds l A A) w (pos 0) -ℤ cond (int_lt w (pos 0)) w (pos 0)
excess-item l (pos n) A = go (literal_holds l A A) ∙ sym (ap (λ z. cond (literal_holds l A A) (pos n) (pos 0) -ℤ z) (cond-false (int_lt (pos n) (pos 0)) (pos n) (pos 0) (le-ltb n 0 (omega arith))))
  where
    go : (b : Bool) → pos (cond b n 0) ≡ cond b (pos n) (pos 0) -ℤ pos 0
    go true = omega (arith, ints)
    go false = omega (arith, ints)
excess-item l (negsuc n) A = go (literal_holds l A A)
  where
    go : (b : Bool) → pos (cond b 0 (suc n)) ≡ cond b (negsuc n) (pos 0) -ℤ negsuc n
    go true = omega (arith, ints)
    go false = omega (arith, ints)

-- ---- the items of a level

abbrev pub excess : List (Literal × ℤ) → Set → ℕ
excess [] A = 0
excess (item ∷ items) A = excess_of_item item.0 item.1 A + excess items A

pub soft_cost-items : (f : ℕ) (items : List (Literal × ℤ)) (A : Set) → soft_cost (soft_of_items f items) A ≡ f * excess items A
soft_cost-items f [] A = omega arith
soft_cost-items f (item ∷ items) A =
    soft_cost-append (soft_of_item f item.0 item.1) (soft_of_items f items) A
    ∙ (ap₂ ◌+◌ (soft_cost-item f item.0 item.1 A) (soft_cost-items f items A) ∙ sym (mul-add f (excess_of_item item.0 item.1 A) (excess items A)))

pub excess-total : (items : List (Literal × ℤ)) (A : Set) → excess items A ≤ total items
excess-total [] A = omega arith
excess-total (item ∷ items) A =
    let here : excess_of_item item.0 item.1 A ≤ nat_abs item.1 = excess-most item.0 item.1 A in
    let rest : excess items A ≤ total items = excess-total items A in
    omega arith

apart : (a b c d x y : ℤ) → x ≡ a -ℤ b → y ≡ c -ℤ d → x +ℤ y ≡ (a +ℤ c) -ℤ (b +ℤ d)
apart a b c d x y e f = omega (arith, ints)

pub excess-is : (items : List (Literal × ℤ)) (A : Set) → pos (excess items A) ≡ weight_of items A A -ℤ offset_of items
excess-is [] A = refl
excess-is (item ∷ items) A =
    apart (cond (literal_holds item.0 A A) item.1 (pos 0)) (cond (int_lt item.1 (pos 0)) item.1 (pos 0)) (weight_of items A A) (offset_of items)
    (pos (excess_of_item item.0 item.1 A)) (pos (excess items A)) (excess-item item.0 item.1 A) (excess-is items A)

-- ---- the levels

abbrev pub excesses : List Level → Set → List ℕ
excesses levels A = map (λ level. excess level.items A) levels

excesses-fit : (levels : List Level) (A : Set) → Fit levels (excesses levels A)
excesses-fit [] A = tt
excesses-fit (level ∷ lower) A = (excess-total level.items A, excesses-fit lower A)

pub soft_cost-joined : (levels : List Level) (A : Set) → soft_cost (soft_of levels) A ≡ joined levels (excesses levels A)
soft_cost-joined [] A = refl
soft_cost-joined (level ∷ lower) A =
    let cut : soft_cost (soft_of lower ++ soft_of_items (scale_of lower) level.items) A ≡ soft_cost (soft_of lower) A + soft_cost (soft_of_items (scale_of lower) level.items) A
    = soft_cost-append (soft_of lower) (soft_of_items (scale_of lower) level.items) A in
    let here : soft_cost (soft_of_items (scale_of lower) level.items) A ≡ scale_of lower * excess level.items A = soft_cost-items (scale_of lower) level.items A in
    let rest : soft_cost (soft_of lower) A ≡ joined lower (excesses lower A) = soft_cost-joined lower A in
    omega arith

joined-cost : (levels : List Level) (A : Set) → pos (joined levels (excesses levels A)) ≡ joined_cost levels (costs_of levels A)
joined-cost [] A = refl
joined-cost (level ∷ lower) A = ap₂ ◌+ℤ◌ (ap (λ z. pos (scale_of lower) *ℤ z) (excess-is level.items A)) (joined-cost lower A)

pub soft_cost-is : (levels : List Level) (A : Set) → pos (soft_cost (soft_of levels) A) ≡ joined_cost levels (costs_of levels A)
soft_cost-is levels A = ap (λ n. pos n) (soft_cost-joined levels A) ∙ joined-cost levels A

-- ---- order

less-cheaper : (x y : ℕ) (c d o : ℤ) → pos x ≡ c -ℤ o → pos y ≡ d -ℤ o → x < y → c <ℤ d
less-cheaper x y c d o e f h = omega (arith, ints)

cheaper-less : (x y : ℕ) (c d o : ℤ) → pos x ≡ c -ℤ o → pos y ≡ d -ℤ o → c <ℤ d → x < y
cheaper-less x y c d o e f h = omega (arith, ints)

same-costs : (x y : ℕ) (c d o : ℤ) → pos x ≡ c -ℤ o → pos y ≡ d -ℤ o → x ≡ y → c ≡ d
same-costs x y c d o e f h = omega (arith, ints)

same-excesses : (x y : ℕ) (c d o : ℤ) → pos x ≡ c -ℤ o → pos y ≡ d -ℤ o → c ≡ d → x ≡ y
same-excesses x y c d o e f h = omega (arith, ints)

excesses-order : (levels : List Level) (A B : Set) → IsLess (excesses levels A) (excesses levels B) ↔ IsCheaper (costs_of levels A) (costs_of levels B)
excesses-order [] A B = (λ h. h, λ h. h)
excesses-order (level ∷ lower) A B =
    let x : ℕ = excess level.items A in
    let y : ℕ = excess level.items B in
    let c : ℤ = weight_of level.items A A in
    let d : ℤ = weight_of level.items B B in
    let o : ℤ = offset_of level.items in
    let e : pos x ≡ c -ℤ o = excess-is level.items A in
    let f : pos y ≡ d -ℤ o = excess-is level.items B in
    let ih : IsLess (excesses lower A) (excesses lower B) ↔ IsCheaper (costs_of lower A) (costs_of lower B) = excesses-order lower A B in (
      λ h. ⊎_elim (λ l. inl (less-cheaper x y c d o e f l)) (λ p. inr (same-costs x y c d o e f p.0, ih.0 p.1)) h,
      λ h. ⊎_elim (λ l. inl (cheaper-less x y c d o e f l)) (λ p. inr (same-excesses x y c d o e f p.0, ih.1 p.1)) h,
    )

pub soft_cost-order : (levels : List Level) (A B : Set) → (soft_cost (soft_of levels) A < soft_cost (soft_of levels) B) ↔ IsCheaper (costs_of levels A) (costs_of levels B)
soft_cost-order levels A B =
    let a : soft_cost (soft_of levels) A ≡ joined levels (excesses levels A) = soft_cost-joined levels A in
    let b : soft_cost (soft_of levels) B ≡ joined levels (excesses levels B) = soft_cost-joined levels B in
    let order : (joined levels (excesses levels A) < joined levels (excesses levels B)) ↔ IsLess (excesses levels A) (excesses levels B)
    = joined-order levels (excesses levels A) (excesses levels B) (excesses-fit levels A) (excesses-fit levels B) in
    let costs : IsLess (excesses levels A) (excesses levels B) ↔ IsCheaper (costs_of levels A) (costs_of levels B) = excesses-order levels A B in
    (λ h. costs.0 (order.0 (subst₂ (λ m n. m < n) a b h)), λ h. subst₂ (λ m n. m < n) (sym a) (sym b) (order.1 (costs.1 h)))

-- ---- weights

weights_of-item : (f : ℕ) (l : Literal) (w : ℤ) → weights_of (soft_of_item f l w) ≡ f * nat_abs w
weights_of-item f l (pos zero) = omega arith
weights_of-item f l (pos (suc n)) = omega arith
weights_of-item f l (negsuc n) = omega arith

pub weights_of-items : (f : ℕ) (items : List (Literal × ℤ)) → weights_of (soft_of_items f items) ≡ f * total items
weights_of-items f [] = omega arith
weights_of-items f (item ∷ items) =
    weights_of-append (soft_of_item f item.0 item.1) (soft_of_items f items)
    ∙ (ap₂ ◌+◌ (weights_of-item f item.0 item.1) (weights_of-items f items) ∙ sym (mul-add f (nat_abs item.1) (total items)))

pub weights_of-levels : (levels : List Level) → weights_of (soft_of levels) + 1 ≡ scale_of levels
weights_of-levels [] = refl
weights_of-levels (level ∷ lower) =
    let cut : weights_of (soft_of lower ++ soft_of_items (scale_of lower) level.items) ≡ weights_of (soft_of lower) + weights_of (soft_of_items (scale_of lower) level.items)
    = weights_of-append (soft_of lower) (soft_of_items (scale_of lower) level.items) in
    let here : weights_of (soft_of_items (scale_of lower) level.items) ≡ scale_of lower * total level.items = weights_of-items (scale_of lower) level.items in
    let rest : weights_of (soft_of lower) + 1 ≡ scale_of lower = weights_of-levels lower in
    let more : scale_of lower * (total level.items + 1) ≡ scale_of lower * total level.items + scale_of lower * 1 = mul-add (scale_of lower) (total level.items) 1 in
    let one : scale_of lower * 1 ≡ scale_of lower = mul-one (scale_of lower) in
    omega arith
