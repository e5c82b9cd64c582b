-- Levels by falling priority: what goes in, and that priorities with their items determine the list.
use Rattle.std.proofs.Common.{◌≡◌, refl, sym, ◌∙◌, ap, ap₂, subst, ℕ, zero, suc, ◌<◌, Bool, true, false, cond, not, ◌||◌, ◌&&◌, List, [], ◌∷◌, ◌++◌, length, get_or, set, filter, is_lt, ⊎_elim, append-nil, append_assoc, add-one, sub-one, ◌-◌, arith}
use Rattle.std.specs.Prelude.{ℤ, ◌<ℤ◌, ◌≤ℤ◌, int_lt}
use Rattle.std.specs.List.{AllByRecursion, list_any}
use Rattle.std.specs.List.Sorted.{IsSortedByKey, IsStableByKey, ties}
use Rattle.std.specs.Ordering.{int_eq, int_cmp, is_eq}
use Rattle.std.specs.declared.cmp.Ordering.TheVariants.{Less, Equal, Greater}
use Rattle.std.proofs.lemmas.Bool.{or_cases, or_left, true≢false, cases_Bool, cond_both, cond-true, cond-false, false_from_ne_true}
use Rattle.std.proofs.lemmas.Bool.Decides.{Decides-int_eq}
use Rattle.std.proofs.lemmas.Int.{ints}
use Rattle.asp_base.proofs.Bools.{or_swap, or_again}
use Rattle.asp_base.proofs.IntegerTests.{lt-from_test, le-from_test}
use Rattle.asp_base.specs.Literal.{Literal}
use Rattle.ground_program.specs.Draft.{into_levels, levels_onto}
use Rattle.ground_program.specs.Facts.{FallsFrom}
use Rattle.ground_program.specs.private.Falling.{lowest, NoneRises}
use Rattle.ground_program.specs.declared.program.Level.{Level}

eq-from_test : (a b : ℤ) → int_eq a b ≡ true → a ≡ b
eq-from_test a b = (Decides-int_eq a b).0

test-from_eq : (a b : ℤ) → a ≡ b → int_eq a b ≡ true
test-from_eq a b = (Decides-int_eq a b).1

test-from_ne : (a b : ℤ) → (a ≡ b → ⊥) → int_eq a b ≡ false
test-from_ne a b n = false_from_ne_true (int_eq a b) (λ e. n (eq-from_test a b e))

more-from_tests : (a b : ℤ) → int_lt a b ≡ false → int_eq a b ≡ false → b <ℤ a
more-from_tests a b e d = let le : b ≤ℤ a = le-from_test a b e in
    let ne : a ≡ b → ⊥ = λ h. true≢false (sym (test-from_eq a b h) ∙ d) in
    omega (arith, ints)

-- the levels before and after a level goes in
pub goes-into : (new level : Level) (levels : List Level) (P : List Level → Type 0)
    → (level.priority <ℤ new.priority → P (new ∷ level ∷ levels))
    → (level.priority ≡ new.priority → P (record { priority = level.priority; items = level.items ++ new.items } ∷ levels))
    → (new.priority <ℤ level.priority → P (level ∷ into_levels new levels))
    → P (into_levels new (level ∷ levels))
goes-into new level levels P less same more =
    cond_both (int_lt level.priority new.priority) (new ∷ level ∷ levels) (cond (int_eq level.priority new.priority) (record { priority = level.priority; items = level.items ++ new.items } ∷ levels) (level ∷ into_levels new levels)) P
    (λ e. less (lt-from_test _ _ e))
    (λ e. cond_both (int_eq level.priority new.priority) (record { priority = level.priority; items = level.items ++ new.items } ∷ levels) (level ∷ into_levels new levels) P
    (λ d. same (eq-from_test _ _ d))
    (λ d. more (more-from_tests _ _ e d)))

pub FallsFrom-into : (high : ℤ) (new : Level) (levels : List Level) → new.priority <ℤ high → FallsFrom high levels → FallsFrom high (into_levels new levels)
FallsFrom-into high new [] h r = (h, tt)
FallsFrom-into high new (level ∷ levels) h r = goes-into new level levels (FallsFrom high)
    (λ l. (h, (l, r.1)))
    (λ e. r)
    (λ l. (r.0, FallsFrom-into level.priority new levels l r.1))

pub FallsFrom-onto : (high : ℤ) (levels news : List Level) → FallsFrom high levels → AllByRecursion (λ level. level.priority <ℤ high) news → FallsFrom high (levels_onto levels news)
FallsFrom-onto high levels [] r h = r
FallsFrom-onto high levels (new ∷ news) r h = FallsFrom-onto high (into_levels new levels) news (FallsFrom-into high new levels h.0 r) h.1

-- ---- what a list has at a priority

abbrev has : ℤ → List Level → Bool
has p levels = list_any (λ level. int_eq level.priority p) levels

abbrev items_at : ℤ → List Level → List (Literal × ℤ)
items_at p [] = []
items_at p (level ∷ levels) = cond (int_eq level.priority p) (level.items ++ items_at p levels) (items_at p levels)

abbrev own : ℤ → Level → List (Literal × ℤ)
own p level = cond (int_eq level.priority p) level.items []

none-above : (high p : ℤ) (levels : List Level) → FallsFrom high levels → high ≤ℤ p → has p levels ≡ false
none-above high p [] r h = refl
none-above high p (level ∷ levels) r h =
    let below : level.priority <ℤ high = r.0 in
    let le : level.priority ≤ℤ p = omega (arith, ints) in
    ap₂ ◌||◌ (test-from_ne level.priority p (λ e. omega (arith, ints))) (none-above level.priority p levels r.1 le)

no_items : (p : ℤ) (levels : List Level) → has p levels ≡ false → items_at p levels ≡ []
no_items p [] h = refl
no_items p (level ∷ levels) h = both (int_eq level.priority p) (has p levels) h (no_items p levels)
  where
    both : (u v : Bool) → (u || v) ≡ false → (v ≡ false → items_at p levels ≡ []) → cond u (level.items ++ items_at p levels) (items_at p levels) ≡ []
    both true v e k = absurd (true≢false e)
    both false v e k = k e

has-into : (p : ℤ) (new : Level) (levels : List Level) → has p (into_levels new levels) ≡ (int_eq new.priority p || has p levels)
has-into p new [] = refl
has-into p new (level ∷ levels) = goes-into new level levels (λ made. has p made ≡ (int_eq new.priority p || has p (level ∷ levels)))
    (λ l. refl)
    (λ e. sym (or_again (int_eq level.priority p) (has p levels)) ∙ ap (λ z. int_eq z p || has p (level ∷ levels)) e)
    (λ l. ap (λ m. int_eq level.priority p || m) (has-into p new levels) ∙ or_swap (int_eq level.priority p) (int_eq new.priority p) (has p levels))

-- one level before others that have nothing at its priority
own-before : (p : ℤ) (new : Level) (levels : List Level) → (new.priority ≡ p → items_at p levels ≡ []) → items_at p (new ∷ levels) ≡ items_at p levels ++ own p new
own-before p new levels h = elim (int_eq new.priority p) as (λ v. int_eq new.priority p ≡ v → cond v (new.items ++ items_at p levels) (items_at p levels) ≡ items_at p levels ++ cond v new.items []) [
  | true ↦ (λ e. ap (λ z. new.items ++ z) (h (eq-from_test _ _ e)) ∙ append-nil new.items ∙ ap (λ z. z ++ new.items) (sym (h (eq-from_test _ _ e))))
  | false ↦ (λ e. sym (append-nil (items_at p levels)))
] refl

-- two levels of one priority, joined
own-joined : (u : Bool) (xs ys zs : List (Literal × ℤ)) → (u ≡ true → zs ≡ []) → cond u ((xs ++ ys) ++ zs) zs ≡ cond u (xs ++ zs) zs ++ cond u ys []
own-joined true xs ys zs h = ap (λ z. (xs ++ ys) ++ z) (h refl) ∙ append-nil (xs ++ ys) ∙ ap (λ z. z ++ ys) (sym (append-nil xs) ∙ ap (λ z. xs ++ z) (sym (h refl)))
own-joined false xs ys zs h = sym (append-nil zs)

own-behind : (u : Bool) (xs ys zs : List (Literal × ℤ)) → cond u (xs ++ (ys ++ zs)) (ys ++ zs) ≡ cond u (xs ++ ys) ys ++ zs
own-behind true xs ys zs = sym (append_assoc xs ys zs)
own-behind false xs ys zs = refl

items-into : (high p : ℤ) (new : Level) (levels : List Level) → FallsFrom high levels → items_at p (into_levels new levels) ≡ items_at p levels ++ own p new
items-into high p new [] r = own-before p new [] (λ e. refl)
items-into high p new (level ∷ levels) r = goes-into new level levels (λ made. items_at p made ≡ items_at p (level ∷ levels) ++ own p new)
    (λ l. own-before p new (level ∷ levels) (λ e. no_items p (level ∷ levels) (none-above new.priority p (level ∷ levels) (l, r.1) (omega (arith, ints)))))
    (λ e. own-joined (int_eq level.priority p) level.items new.items (items_at p levels)
    (λ d. let is : level.priority ≡ p = eq-from_test _ _ d in no_items p levels (none-above level.priority p levels r.1 (omega (arith, ints))))
    ∙ ap (λ z. items_at p (level ∷ levels) ++ cond (int_eq z p) new.items []) e)
    (λ l. ap (λ z. cond (int_eq level.priority p) (level.items ++ z) z) (items-into level.priority p new levels r.1)
    ∙ own-behind (int_eq level.priority p) level.items (items_at p levels) (own p new))

has-onto : (p : ℤ) (levels news : List Level) → has p (levels_onto levels news) ≡ (has p levels || has p news)
has-onto p levels [] = or_nothing (has p levels)
  where
    or_nothing : (u : Bool) → u ≡ (u || false)
    or_nothing true = refl
    or_nothing false = refl
has-onto p levels (new ∷ news) = has-onto p (into_levels new levels) news ∙ ap (λ m. m || has p news) (has-into p new levels)
    ∙ turned (int_eq new.priority p) (has p levels) (has p news)
  where
    turned : (u v w : Bool) → ((u || v) || w) ≡ (v || (u || w))
    turned true true w = refl
    turned true false w = refl
    turned false v w = refl

items-onto : (high p : ℤ) (levels news : List Level) → FallsFrom high levels → AllByRecursion (λ level. level.priority <ℤ high) news → items_at p (levels_onto levels news) ≡ items_at p levels ++ items_at p news
items-onto high p levels [] r h = sym (append-nil (items_at p levels))
items-onto high p levels (new ∷ news) r h =
    items-onto high p (into_levels new levels) news (FallsFrom-into high new levels h.0 r) h.1
    ∙ ap (λ z. z ++ items_at p news) (items-into high p new levels r)
    ∙ append_assoc (items_at p levels) (own p new) (items_at p news)
    ∙ ap (λ z. items_at p levels ++ z) (first (int_eq new.priority p) new.items (items_at p news))
  where
    first : (u : Bool) (xs zs : List (Literal × ℤ)) → cond u xs [] ++ zs ≡ cond u (xs ++ zs) zs
    first true xs zs = refl
    first false xs zs = refl

-- ---- falling lists that have the same at each priority are equal

-- the first priority of the one is no higher than that of the other
not-higher : (x y : Level) (xs ys : List Level) → FallsFrom y.priority ys → has x.priority (x ∷ xs) ≡ has x.priority (y ∷ ys) → x.priority ≤ℤ y.priority
not-higher x y xs ys r h =
    ⊎_elim (λ e. let is : y.priority ≡ x.priority = eq-from_test _ _ e in omega (arith, ints))
    (λ e. within y.priority ys r e)
    (or_cases _ _ (sym h ∙ or_left _ _ (test-from_eq x.priority x.priority refl)))
  where
    within : (high : ℤ) (levels : List Level) → FallsFrom high levels → has x.priority levels ≡ true → x.priority ≤ℤ high
    within high [] s e = absurd (true≢false (sym e))
    within high (level ∷ levels) s e =
        let below : level.priority <ℤ high = s.0 in
        ⊎_elim (λ d. let is : level.priority ≡ x.priority = eq-from_test _ _ d in omega (arith, ints))
        (λ d. let le : x.priority ≤ℤ level.priority = within level.priority levels s.1 d in omega (arith, ints))
        (or_cases _ _ e)

items-first : (x : Level) (xs : List Level) → FallsFrom x.priority xs → items_at x.priority (x ∷ xs) ≡ x.items
items-first x xs r = cond-true (int_eq x.priority x.priority) _ _ (test-from_eq x.priority x.priority refl)
    ∙ ap (λ z. x.items ++ z) (no_items x.priority xs (none-above x.priority x.priority xs r (omega (arith, ints))))
    ∙ append-nil x.items

has-rest : (x : Level) (xs ys : List Level) → FallsFrom x.priority xs → FallsFrom x.priority ys → ((p : ℤ) → has p (x ∷ xs) ≡ has p (x ∷ ys)) → (p : ℤ) → has p xs ≡ has p ys
has-rest x xs ys r s h p =
    ⊎_elim (λ e. let is : x.priority ≡ p = eq-from_test _ _ e in none-above x.priority p xs r (omega (arith, ints)) ∙ sym (none-above x.priority p ys s (omega (arith, ints))))
    (λ e. sym (ap (λ u. u || has p xs) e) ∙ h p ∙ ap (λ u. u || has p ys) e)
    (cases_Bool (int_eq x.priority p))

items-rest : (x : Level) (xs ys : List Level) → FallsFrom x.priority xs → FallsFrom x.priority ys → ((p : ℤ) → items_at p (x ∷ xs) ≡ items_at p (x ∷ ys)) → (p : ℤ) → items_at p xs ≡ items_at p ys
items-rest x xs ys r s h p =
    ⊎_elim (λ e. let is : x.priority ≡ p = eq-from_test _ _ e in
    no_items p xs (none-above x.priority p xs r (omega (arith, ints))) ∙ sym (no_items p ys (none-above x.priority p ys s (omega (arith, ints)))))
    (λ e. sym (cond-false (int_eq x.priority p) _ _ e) ∙ h p ∙ cond-false (int_eq x.priority p) _ _ e)
    (cases_Bool (int_eq x.priority p))

same_falling : (high : ℤ) (xs ys : List Level) → FallsFrom high xs → FallsFrom high ys → ((p : ℤ) → has p xs ≡ has p ys) → ((p : ℤ) → items_at p xs ≡ items_at p ys) → xs ≡ ys
same_falling high [] [] r s h i = refl
same_falling high [] (y ∷ ys) r s h i = absurd (true≢false (sym (or_left _ _ (test-from_eq y.priority y.priority refl)) ∙ sym (h y.priority)))
same_falling high (x ∷ xs) [] r s h i = absurd (true≢false (sym (or_left _ _ (test-from_eq x.priority x.priority refl)) ∙ h x.priority))
same_falling high (x ∷ xs) (y ∷ ys) r s h i =
    let le : x.priority ≤ℤ y.priority = not-higher x y xs ys s.1 (h x.priority) in
    let ge : y.priority ≤ℤ x.priority = not-higher y x ys xs r.1 (sym (h y.priority)) in
    let even : x.priority ≡ y.priority = omega (arith, ints) in
    let items : x.items ≡ y.items = sym (items-first x xs r.1) ∙ i x.priority ∙ ap (λ p. items_at p (y ∷ ys)) even ∙ items-first y ys s.1 in
    let first : x ≡ y = ap₂ (λ p items'. record { priority = p; items = items' }) even items in
    let s' : FallsFrom x.priority ys = subst (λ z. FallsFrom z ys) (sym even) s.1 in
    let h' : (p : ℤ) → has p (x ∷ xs) ≡ has p (x ∷ ys) = subst (λ z. (p : ℤ) → has p (x ∷ xs) ≡ has p (z ∷ ys)) (sym first) h in
    let i' : (p : ℤ) → items_at p (x ∷ xs) ≡ items_at p (x ∷ ys) = subst (λ z. (p : ℤ) → items_at p (x ∷ xs) ≡ items_at p (z ∷ ys)) (sym first) i in
    ap₂ ◌∷◌ first (same_falling x.priority xs ys r.1 s' (has-rest x xs ys r.1 s' h') (items-rest x xs ys r.1 s' i'))

-- ---- a stable sort

-- what ties with a priority has it
tie-is : (a b : ℤ) → (not (is_lt (int_cmp b a)) && not (is_lt (int_cmp a b))) ≡ int_eq b a
tie-is a b = by (int_lt a b) (int_lt b a)
  where
    by : (u v : Bool) → (not (is_lt (cond v Less (cond u Greater Equal))) && not (is_lt (cond u Less (cond v Greater Equal)))) ≡ is_eq (cond v Less (cond u Greater Equal))
    by true true = refl
    by true false = refl
    by false true = refl
    by false false = refl

has-filter : (p : ℤ) (q : Level → Bool) (levels : List Level) → ((level : Level) → q level ≡ int_eq level.priority p) → has p (filter q levels) ≡ has p levels
has-filter p q [] h = refl
has-filter p q (level ∷ levels) h = elim (q level) as (λ v. q level ≡ v → has p (cond v (level ∷ filter q levels) (filter q levels)) ≡ has p (level ∷ levels)) [
  | true ↦ (λ e. ap (λ m. int_eq level.priority p || m) (has-filter p q levels h))
  | false ↦ (λ e. has-filter p q levels h ∙ ap (λ u. u || has p levels) (sym e ∙ h level))
] refl

items-filter : (p : ℤ) (q : Level → Bool) (levels : List Level) → ((level : Level) → q level ≡ int_eq level.priority p) → items_at p (filter q levels) ≡ items_at p levels
items-filter p q [] h = refl
items-filter p q (level ∷ levels) h = elim (q level) as (λ v. q level ≡ v → items_at p (cond v (level ∷ filter q levels) (filter q levels)) ≡ items_at p (level ∷ levels)) [
  | true ↦ (λ e. ap (λ z. cond (int_eq level.priority p) (level.items ++ z) z) (items-filter p q levels h))
  | false ↦ (λ e. items-filter p q levels h ∙ ap (λ u. cond u (level.items ++ items_at p levels) (items_at p levels)) (sym e ∙ h level))
] refl

abbrev pub IsStableFalling : List Level → List Level → Type 0
IsStableFalling xs ys = IsStableByKey {X = Level} (λ level. level.priority) (λ p q. int_cmp q p) xs ys

-- a stable sort changes nothing that the priorities have
pub levels_onto-sorted : (high : ℤ) (xs ys : List Level) → IsStableFalling xs ys → AllByRecursion (λ level. level.priority <ℤ high) xs → AllByRecursion (λ level. level.priority <ℤ high) ys → levels_onto [] ys ≡ levels_onto [] xs
levels_onto-sorted high xs ys stable below below' = same_falling high (levels_onto [] ys) (levels_onto [] xs)
    (FallsFrom-onto high [] ys tt below') (FallsFrom-onto high [] xs tt below)
    (λ p. has-onto p [] ys ∙ sym (has-filter p (tied p) ys (tied-is p)) ∙ ap (has p) (kept p) ∙ has-filter p (tied p) xs (tied-is p) ∙ sym (has-onto p [] xs))
    (λ p. items-onto high p [] ys tt below' ∙ sym (items-filter p (tied p) ys (tied-is p)) ∙ ap (items_at p) (kept p) ∙ items-filter p (tied p) xs (tied-is p) ∙ sym (items-onto high p [] xs tt below))
  where
    tied : ℤ → Level → Bool
    tied p level = ties (λ x y. is_lt (int_cmp y.priority x.priority)) (record { priority = p; items = [] }) level

    kept : (p : ℤ) → filter (tied p) ys ≡ filter (tied p) xs
    kept p = stable (record { priority = p; items = [] })

    tied-is : (p : ℤ) (level : Level) → tied p level ≡ int_eq level.priority p
    tied-is p level = tie-is p level.priority

step : (level : Level) (levels : List Level) → IsSortedByKey {X = Level} (λ l. l.priority) (λ p q. int_cmp q p) (level ∷ levels) → IsSortedByKey {X = Level} (λ l. l.priority) (λ p q. int_cmp q p) levels
step level levels up k d z below = rw add-one (rw add-one at (up (suc k) d (omega arith) (omega arith)))

pub NoneRises-from_sorted : (high : ℤ) (levels : List Level) → IsSortedByKey {X = Level} (λ l. l.priority) (λ p q. int_cmp q p) levels → ((d : Level) → 0 < length levels → (get_or levels 0 d).priority ≤ℤ high) → NoneRises high levels
NoneRises-from_sorted high [] up h = tt
NoneRises-from_sorted high (level ∷ levels) up h = (
  h level (omega arith),
  NoneRises-from_sorted level.priority levels (step level levels up)
      (λ d some. not-less level.priority (get_or levels 0 d).priority (up 0 d (omega arith) (omega arith))),
)
  where
    not-less : (a b : ℤ) → is_lt (int_cmp a b) ≡ false → b ≤ℤ a
    not-less a b e = le-from_test a b (by (int_lt a b) (int_lt b a) e)
      where
        by : (u v : Bool) → is_lt (cond u Less (cond v Greater Equal)) ≡ false → u ≡ false
        by true v e = e
        by false v e = refl

-- ---- behind the last level

lowest-le : (high : ℤ) (levels : List Level) → FallsFrom high levels → lowest high levels ≤ℤ high
lowest-le high [] r = omega (arith, ints)
lowest-le high (level ∷ levels) r =
    let below : level.priority <ℤ high = r.0 in
    let le : lowest level.priority levels ≤ℤ level.priority = lowest-le level.priority levels r.1 in
    omega (arith, ints)

pub lowest-into : (high : ℤ) (new : Level) (levels : List Level) → FallsFrom high levels → new.priority ≤ℤ lowest high levels → lowest high (into_levels new levels) ≡ new.priority
lowest-into high new [] r h = refl
lowest-into high new (level ∷ levels) r h =
    let le : lowest level.priority levels ≤ℤ level.priority = lowest-le level.priority levels r.1 in
    goes-into new level levels (λ made. lowest high made ≡ new.priority)
    (λ l. absurd (omega (arith, ints)))
    (λ e. omega (arith, ints))
    (λ l. lowest-into level.priority new levels r.1 h)

-- a lower level goes behind the others
pub into-behind : (high : ℤ) (new : Level) (levels : List Level) → FallsFrom high levels → new.priority <ℤ lowest high levels → into_levels new levels ≡ levels ++ new ∷ []
into-behind high new [] r h = refl
into-behind high new (level ∷ levels) r h =
    let le : lowest level.priority levels ≤ℤ level.priority = lowest-le level.priority levels r.1 in
    goes-into new level levels (λ made. made ≡ level ∷ (levels ++ new ∷ []))
    (λ l. absurd (omega (arith, ints)))
    (λ e. absurd (omega (arith, ints)))
    (λ l. ap (λ made. level ∷ made) (into-behind level.priority new levels r.1 h))

pub lowest-last : (high : ℤ) (levels : List Level) (n : ℕ) (d : Level) → length levels ≡ suc n → lowest high levels ≡ (get_or levels n d).priority
lowest-last high [] n d h = absurd (omega arith)
lowest-last high (level ∷ []) zero d h = refl
lowest-last high (level ∷ []) (suc n) d h = absurd (omega arith)
lowest-last high (level ∷ l ∷ levels) zero d h = absurd (omega arith)
lowest-last high (level ∷ l ∷ levels) (suc n) d h = lowest-last level.priority (l ∷ levels) n d (omega arith)

-- a level of the last priority is joined to the last one
pub into-last : (high : ℤ) (new : Level) (levels : List Level) (n : ℕ) (d : Level) → length levels ≡ suc n → FallsFrom high levels → new.priority ≡ lowest high levels
    → into_levels new levels ≡ set levels n (record { priority = (get_or levels n d).priority; items = (get_or levels n d).items ++ new.items })
into-last high new [] n d h r e = absurd (omega arith)
into-last high new (level ∷ []) zero d h r e =
    goes-into new level [] (λ made. made ≡ record { priority = level.priority; items = level.items ++ new.items } ∷ [])
    (λ l. absurd (omega (arith, ints)))
    (λ same. refl)
    (λ l. absurd (omega (arith, ints)))
into-last high new (level ∷ []) (suc n) d h r e = absurd (omega arith)
into-last high new (level ∷ l ∷ levels) zero d h r e = absurd (omega arith)
into-last high new (level ∷ l ∷ levels) (suc n) d h r e =
    let le : lowest l.priority levels ≤ℤ l.priority = lowest-le l.priority levels r.1.1 in
    let below : l.priority <ℤ level.priority = r.1.0 in
    goes-into new level (l ∷ levels) (λ made. made ≡ level ∷ set (l ∷ levels) n (record { priority = (get_or (l ∷ levels) n d).priority; items = (get_or (l ∷ levels) n d).items ++ new.items }))
    (λ k. absurd (omega (arith, ints)))
    (λ k. absurd (omega (arith, ints)))
    (λ k. ap (λ made. level ∷ made) (into-last level.priority new (l ∷ levels) n d (omega arith) r.1 e))

lowest-read : (high : ℤ) (levels : List Level) (count : ℕ) (x : Level) → 0 < count → count ≡ length levels → x ≡ get_or levels (count - 1) x → lowest high levels ≡ x.priority
lowest-read high levels zero x some is read = absurd (omega arith)
lowest-read high levels (suc n) x some is read = lowest-last high levels n x (sym is) ∙ ap (λ (l : Level). l.priority) (sym (rw sub-one at read))

-- where the last level was read, and is of a higher priority
pub goes-behind : (high : ℤ) (new : Level) (levels : List Level) (count : ℕ) (x : Level) → FallsFrom high levels → new.priority ≤ℤ lowest high levels
    → 0 < count → count ≡ length levels → x ≡ get_or levels (count - 1) x → (x.priority ≡ new.priority → ⊥) → levels ++ new ∷ [] ≡ into_levels new levels
goes-behind high new levels count x r h some is read ne =
    let last : lowest high levels ≡ x.priority = lowest-read high levels count x some is read in
    sym (into-behind high new levels r (omega (arith, ints)))

-- where the last level was read, and is of the same priority
pub is-joined : (high : ℤ) (new : Level) (levels : List Level) (count : ℕ) (x : Level) → FallsFrom high levels
    → 0 < count → count ≡ length levels → x ≡ get_or levels (count - 1) x → x.priority ≡ new.priority
    → set levels (count - 1) (record { priority = x.priority; items = x.items ++ new.items }) ≡ into_levels new levels
is-joined high new levels zero x r some is read e = absurd (omega arith)
is-joined high new levels (suc n) x r some is read e =
    let last : lowest high levels ≡ x.priority = lowest-read high levels (suc n) x some is read in
    let at : x ≡ get_or levels n x = rw sub-one at read in
    rw sub-one (ap (λ (l : Level). set levels n (record { priority = l.priority; items = l.items ++ new.items })) at
    ∙ sym (into-last high new levels n x (sym is) r (sym (last ∙ e))))

pub goes-first : (new : Level) (levels : List Level) → length levels ≡ 0 → levels ++ new ∷ [] ≡ into_levels new levels
goes-first new [] h = refl
goes-first new (level ∷ levels) h = absurd (omega arith)

-- one more level of falling ones goes behind those that were merged
pub record Merged (high : ℤ) (merged rest start : List Level) : Type 0 where
  pub falls : FallsFrom high merged
  pub below : NoneRises (lowest high merged) rest
  pub same : levels_onto merged rest ≡ start

pub merge-step : (high : ℤ) (new : Level) (merged made rest start : List Level) → new.priority <ℤ high → Merged high merged (new ∷ rest) start → made ≡ into_levels new merged → Merged high made rest start
merge-step high new merged made rest start h m e = subst (λ z. Merged high z rest start) (sym e) (record {
  falls = FallsFrom-into high new merged h m.falls;
  below = subst (λ low. NoneRises low rest) (sym (lowest-into high new merged m.falls m.below.0)) m.below.1;
  same = m.same;
})
