-- Lists without repetition: how long they are within others, and what stands in just one of them.
use Rattle.std.proofs.Common.{◌≡◌, ◌⊎◌, refl, sym, ◌∙◌, ap, ⊎_elim, inl, inr, ℕ, suc, ◌≤◌, ◌<◌, Bool, true, false, not, cond, ◌==◌, List, [], ◌∷◌, ◌++◌, length, arith}
use Rattle.std.specs.List.{AllByRecursion, IsDistinct, flat_map, filter}
use Rattle.std.proofs.lemmas.Bool.{or_cases, or_left, or_right, true≢false, cases_Bool, eqb-true, eq-eqb, ne_eqb, both_ways, false_from_ne_true}
use Rattle.std.proofs.lemmas.Map.Keys.{IsDistinct-head, IsDistinct-tail}
use Rattle.asp_base.specs.Sets.{In, members}
use Rattle.asp_base.proofs.Each.{each-front, each-back, each-append, each-member}
use Rattle.tangle_laws.proofs.PartElements.{member-among, among-member, member-flat, kept-among, among-flat}
use Rattle.tangle_laws.proofs.PartSums.{total, total-none}

abbrev pub Distinct : List ℕ → Type 0
Distinct xs = IsDistinct (λ a b. a == b) xs

-- ---- how long

without : ℕ → List ℕ → List ℕ
without x ys = filter (λ y. not (x == y)) ys

without-member : (x : ℕ) (ys : List ℕ) (a : ℕ) → (x == a) ≡ false → members ys a ≡ true
    → members (without x ys) a ≡ true
unfolding without
without-member x [] a d m = m
without-member x (y ∷ ys) a d m = by (x == y) refl (λ t. without-member x ys a d t) (or_cases _ _ m)
  where
    by : (b : Bool) → (x == y) ≡ b → (members ys a ≡ true → members (without x ys) a ≡ true)
        → ((y == a) ≡ true) ⊎ (members ys a ≡ true) →
        members (cond (not b) (y ∷ without x ys) (without x ys)) a ≡ true
    by true e rest (inl t) = absurd (true≢false (sym e ∙ (ap (λ z. x == z) (eqb-true y a t) ∙ d)))
    by true e rest (inr t) = rest t
    by false e rest (inl t) = or_left _ _ t
    by false e rest (inr t) = or_right _ _ (rest t)

without-le : (x : ℕ) (ys : List ℕ) → length (without x ys) ≤ length ys
unfolding without
without-le x [] = omega arith
without-le x (y ∷ ys) = by (x == y) (without-le x ys)
  where
    by : (b : Bool) → length (without x ys) ≤ length ys →
        length (cond (not b) (y ∷ without x ys) (without x ys)) ≤ suc (length ys)
    by true h = omega arith
    by false h = omega arith

without-less : (x : ℕ) (ys : List ℕ) → members ys x ≡ true → length (without x ys) < length ys
unfolding without
without-less x [] m = absurd (true≢false (sym m))
without-less x (y ∷ ys) m = by (x == y) refl (without-le x ys) (λ t. without-less x ys t)
    (or_cases _ _ m)
  where
    by : (b : Bool) → (x == y) ≡ b → length (without x ys) ≤ length ys
        → (members ys x ≡ true → length (without x ys) < length ys)
        → ((y == x) ≡ true) ⊎ (members ys x ≡ true) →
        length (cond (not b) (y ∷ without x ys) (without x ys)) < suc (length ys)
    by true e le less t = omega arith
    by false e le less (inl t) = absurd (true≢false (sym (eq-eqb x y (sym (eqb-true y x t))) ∙ e))
    by false e le less (inr t) = let h : length (without x ys) < length ys = less t in omega arith

-- a list without repetition within another is no longer
pub length-within : (xs ys : List ℕ) → Distinct xs → ((a : ℕ) → members xs a ≡ true
    → members ys a ≡ true) → length xs ≤ length ys
length-within [] ys d h = omega arith
length-within (x ∷ xs) ys d h =
    let less : length (without x ys) < length ys = without-less x ys
    (h x (or_left _ _ (eq-eqb x x refl))) in
    let rest : length xs ≤ length (without x ys) = length-within xs (without x ys)
    (IsDistinct-tail _ x xs d)
    (λ a m. without-member x ys a (each-member (λ y. (x == y) ≡ false) xs a
    (IsDistinct-head _ x xs d) m) (h a (or_right _ _ m))) in
    omega arith

-- ---- joined

pub record AreApartLists (xs ys : List ℕ) : Type 0 where
  pub left : Distinct xs
  pub right : Distinct ys
  pub apart : (a : ℕ) → members xs a ≡ true → members ys a ≡ true → ⊥

pub distinct-parts : (xs ys : List ℕ) → Distinct (xs ++ ys) → AreApartLists xs ys
unfolding IsDistinct
distinct-parts [] ys d = record { left = tt; right = d; apart = λ a m n. true≢false (sym m) }
distinct-parts (x ∷ xs) ys d =
    let rest : AreApartLists xs ys = distinct-parts xs ys d.1 in
    record {
      left = (each-front (λ y. (x == y) ≡ false) xs ys d.0, rest.left);
      right = rest.right;
      apart = λ a m n. ⊎_elim
          (λ e. both_ways (x == a) (each-member (λ y. (x == y) ≡ false) ys a
          (each-back (λ y. (x == y) ≡ false) xs ys d.0) n) e)
          (λ e. rest.apart a e n) (or_cases _ _ m);
    }

each-apart : (x : ℕ) (ys : List ℕ) → (members ys x ≡ true → ⊥)
    → AllByRecursion (λ y. (x == y) ≡ false) ys
each-apart x [] h = tt
each-apart x (y ∷ ys) h = (
  ne_eqb x y (λ e. h (or_left _ _ (eq-eqb y x (sym e)))),
  each-apart x ys (λ m. h (or_right _ _ m)),
)

distinct-joined : (xs ys : List ℕ) → AreApartLists xs ys → Distinct (xs ++ ys)
unfolding IsDistinct
distinct-joined [] ys a = a.right
distinct-joined (x ∷ xs) ys a = (
  each-append (λ y. (x == y) ≡ false) xs ys a.left.0 (each-apart x ys
      (λ m. a.apart x (or_left _ _ (eq-eqb x x refl)) m)),
  distinct-joined xs ys (record {
    left = a.left.1;
    right = a.right;
    apart = λ b m n. a.apart b (or_right _ _ m) n;
  }),
)

-- ---- lists that have nothing in common

abbrev pub joined : List (List ℕ) → List ℕ
joined xss = flat_map (λ xs. xs) xss

pub joined-member : (xss : List (List ℕ)) (a : ℕ) → members (joined xss) a ≡ true
    → (xs : List ℕ) × In xs xss × (members xs a ≡ true)
joined-member xss a m =
    let r : (xs : List ℕ) × In xs xss × In a xs = among-flat (λ xs. xs) xss a
    (member-among (joined xss) a m) in
    (r.0, r.1, among-member r.0 a r.2)

member-joined : (xss : List (List ℕ)) (xs : List ℕ) (a : ℕ) → In xs xss → members xs a ≡ true
    → members (joined xss) a ≡ true
member-joined xss xs a b m = member-flat (λ ys. ys) xss xs a b m

pub distinct-kept : (test : List ℕ → Bool) (xss : List (List ℕ)) → Distinct (joined xss)
    → Distinct (joined (filter test xss))
unfolding IsDistinct
distinct-kept test [] d = tt
distinct-kept test (xs ∷ xss) d =
    let parts : AreApartLists xs (joined xss) = distinct-parts xs (joined xss) d in
    by (test xs) parts (distinct-kept test xss parts.right)
  where
    by : (b : Bool) → AreApartLists xs (joined xss) → Distinct (joined (filter test xss))
        → Distinct (joined (cond b (xs ∷ filter test xss) (filter test xss)))
    by true parts rest = distinct-joined xs (joined (filter test xss)) (record {
      left = parts.left;
      right = rest;
      apart = λ a m n. let r = joined-member (filter test xss) a n in
          parts.apart a m (member-joined xss r.0 a (kept-among test xss r.0 r.1).0 r.2);
    })
    by false parts rest = rest

-- One of such lists at most has a given number, and each sum over those that have it is one term.
pub total-one : (f : List ℕ → ℕ) (x bound : ℕ) (xss : List (List ℕ)) → Distinct (joined xss)
    → ((xs : List ℕ) → In xs xss → f xs ≤ bound) → ((xs : List ℕ) → In xs xss
    → members xs x ≡ false → f xs ≡ 0) → total f xss ≤ bound
total-one f x bound [] d h k = omega arith
total-one f x bound (xs ∷ xss) d h k =
    let parts : AreApartLists xs (joined xss) = distinct-parts xs (joined xss) d in
    ⊎_elim
    (λ t. let here : f xs ≤ bound = h xs (inl refl) in
    let rest : total f xss ≡ 0 =
    total-none f xss (λ ys a. k ys (inr a) (false_from_ne_true _
    (λ m. parts.apart x t (member-joined xss ys x a m)))) in
    omega arith)
    (λ t. let here : f xs ≡ 0 = k xs (inl refl) t in
    let rest : total f xss ≤ bound = total-one f x bound xss parts.right (λ ys a. h ys (inr a))
    (λ ys a. k ys (inr a)) in
    omega arith)
    (cases_Bool (members xs x))
