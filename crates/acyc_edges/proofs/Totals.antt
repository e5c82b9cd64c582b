-- Sums over lists, beside those of `tangle_laws`.
use Rattle.std.proofs.Common.{◌≡◌, refl, sym, ◌∙◌, ap, ap₂, subst, ℕ, ◌+◌, ◌≤◌, ◌<◌, Bool, true, false, cond, not, List, [], ◌∷◌, map, filter, length, ⊎_elim, inl, inr, arith}
use Rattle.std.specs.List.{sum_by, flat_map}
use Rattle.std.proofs.lemmas.Bool.{cases_Bool, cond-true, cond-false}
use Rattle.rising_numbers.specs.Rising.{RisesFrom}
use Rattle.tangle_laws.proofs.PartSums.{total, total-append, sum_by-total}
use Rattle.acyc_edges.proofs.Inside.{filter-in, not-both}
use Rattle.asp_base.specs.Sets.{In}

pub total-sum_by : {A : Type 0} (f : A → ℕ) (xs : List A) → total f xs ≡ sum_by f xs
total-sum_by f xs = sym (sum_by-total f xs)

pub total-flat : {A B : Type 0} (f : B → ℕ) (g : A → List B) (xs : List A) → total f (flat_map g xs) ≡ total (λ x. total f (g x)) xs
total-flat f g [] = refl
total-flat f g (x ∷ xs) = total-append f (g x) (flat_map g xs) ∙ ap (λ n. total f (g x) + n) (total-flat f g xs)

pub total-map : {A B : Type 0} (f : B → ℕ) (g : A → B) (xs : List A) → total f (map g xs) ≡ total (λ x. f (g x)) xs
total-map f g [] = refl
total-map f g (x ∷ xs) = ap (λ n. f (g x) + n) (total-map f g xs)

pub total-same : {A : Type 0} (f g : A → ℕ) (xs : List A) → ((x : A) → In x xs → f x ≡ g x) → total f xs ≡ total g xs
total-same f g [] h = refl
total-same f g (x ∷ xs) h = ap₂ ◌+◌ (h x (inl refl)) (total-same f g xs (λ y i. h y (inr i)))

pub total-one : {A : Type 0} (xs : List A) → total (λ x. 1) xs ≡ length xs
total-one [] = refl
total-one (x ∷ xs) = let k : total (λ y. 1) xs ≡ length xs = total-one xs in omega arith

filter-total : {A : Type 0} (f : A → ℕ) (p : A → Bool) (xs : List A) → total f (filter p xs) + total f (filter (λ x. not (p x)) xs) ≡ total f xs
filter-total f p [] = refl
filter-total f p (x ∷ xs) = go (p x) (filter-total f p xs)
  where
    go : (b : Bool) → total f (filter p xs) + total f (filter (λ y. not (p y)) xs) ≡ total f xs
        → total f (cond b (x ∷ filter p xs) (filter p xs)) + total f (cond (not b) (x ∷ filter (λ y. not (p y)) xs) (filter (λ y. not (p y)) xs)) ≡ f x + total f xs
    go true k = omega arith
    go false k = omega arith

pub total-split : {A : Type 0} (f : A → ℕ) (p : A → Bool) (xs : List A) → total f (filter p xs) + total f (filter (λ x. not (p x)) xs) ≡ total f xs
total-split f p xs = filter-total f p xs

pub total-part : {A : Type 0} (f : A → ℕ) (p : A → Bool) (xs : List A) → total f (filter p xs) ≤ total f xs
total-part f p xs = let k : total f (filter p xs) + total f (filter (λ x. not (p x)) xs) ≡ total f xs = total-split f p xs in omega arith

pub length-part : {A : Type 0} (p : A → Bool) (xs : List A) → length (filter p xs) ≤ length xs
length-part p xs =
    let k : total (λ x. 1) (filter p xs) ≤ total (λ x. 1) xs = total-part (λ x. 1) p xs in
    let a : total (λ x. 1) (filter p xs) ≡ length (filter p xs) = total-one (filter p xs) in
    let b : total (λ x. 1) xs ≡ length xs = total-one xs in omega arith

-- ---- elements under keys

-- no element stands twice
abbrev pub Apart : {A : Type 0} → List A → Type 0
Apart [] = Unit {0}
Apart (x ∷ xs) = (In x xs → ⊥) × Apart xs

above-in : (low : ℕ) (xs : List ℕ) (y : ℕ) → RisesFrom low xs → In y xs → low < y
above-in low [] y r i = absurd i
above-in low (x ∷ xs) y r i = let l : low < x = r.0 in ⊎_elim (λ e. omega arith) (λ e. let k : x < y = above-in x xs y r.1 e in omega arith) i

pub rises-apart : (low : ℕ) (xs : List ℕ) → RisesFrom low xs → Apart xs
rises-apart low [] r = tt
rises-apart low (x ∷ xs) r = ((λ i. let k : x < x = above-in x xs x r.1 i in omega arith), rises-apart x xs r.1)

pub filter-apart : {A : Type 0} (p : A → Bool) (xs : List A) → Apart xs → Apart (filter p xs)
filter-apart p [] h = tt
filter-apart p (x ∷ xs) h = go (p x) (filter-apart p xs h.1)
  where
    go : (b : Bool) → Apart (filter p xs) → Apart (cond b (x ∷ filter p xs) (filter p xs))
    go true r = ((λ i. h.0 ((filter-in p xs x i).0)), r)
    go false r = r

-- elements that pass stay where others are left out
filter-rest : {A : Type 0} (p q : A → Bool) (xs : List A) → ((x : A) → In x xs → q x ≡ true → p x ≡ false) → filter q (filter (λ x. not (p x)) xs) ≡ filter q xs
filter-rest p q [] h = refl
filter-rest p q (x ∷ xs) h = go (p x) refl (q x) refl (filter-rest p q xs (λ y i. h y (inr i)))
  where
    go : (a : Bool) → p x ≡ a → (b : Bool) → q x ≡ b → filter q (filter (λ y. not (p y)) xs) ≡ filter q xs
        → filter q (cond (not a) (x ∷ filter (λ y. not (p y)) xs) (filter (λ y. not (p y)) xs)) ≡ cond b (x ∷ filter q xs) (filter q xs)
    go true e true k r = absurd (not-both (p x) e (h x (inl refl) k))
    go true e false k r = r
    go false e true k r = cond-true (q x) _ _ k ∙ ap (λ ys. x ∷ ys) r
    go false e false k r = cond-false (q x) _ _ k ∙ r

-- where no element passes under two keys, the sums under keys that differ are at most the whole sum
pub total-keys : {A : Type 0} (f : A → ℕ) (p : ℕ → A → Bool) (keys : List ℕ) (xs : List A) → Apart keys
    → ((x : A) → In x xs → (a b : ℕ) → p a x ≡ true → p b x ≡ true → a ≡ b) → total (λ a. total f (filter (p a) xs)) keys ≤ total f xs
total-keys f p [] xs d h = omega arith
total-keys {A} f p (a ∷ keys) xs d h =
    let rest : List A = filter (λ x. not (p a x)) xs in
    let r : total (λ b. total f (filter (p b) rest)) keys ≤ total f rest = total-keys f p keys rest d.1 (λ x i. h x ((filter-in (λ y. not (p a y)) xs x i).0)) in
    let s : total f (filter (p a) xs) + total f rest ≡ total f xs = total-split f (p a) xs in
    let e : total (λ b. total f (filter (p b) rest)) keys ≡ total (λ b. total f (filter (p b) xs)) keys =
    total-same (λ b. total f (filter (p b) rest)) (λ b. total f (filter (p b) xs)) keys
    (λ b i. ap (total f) (filter-rest (p a) (p b) xs (λ x j k. ⊎_elim (λ t. absurd (d.0 (subst (λ y. In y keys) (sym (h x j a b t k)) i))) (λ t. t) (cases_Bool (p a x))))) in
    omega arith

-- filters one after another
pub filter-filter : {A : Type 0} (p q : A → Bool) (xs : List A) → ((x : A) → In x xs → q x ≡ true → p x ≡ true) → filter q (filter p xs) ≡ filter q xs
filter-filter p q [] h = refl
filter-filter p q (x ∷ xs) h = go (p x) refl (q x) refl (filter-filter p q xs (λ y i. h y (inr i)))
  where
    go : (a : Bool) → p x ≡ a → (b : Bool) → q x ≡ b → filter q (filter p xs) ≡ filter q xs
        → filter q (cond a (x ∷ filter p xs) (filter p xs)) ≡ cond b (x ∷ filter q xs) (filter q xs)
    go true e true k r = cond-true (q x) _ _ k ∙ ap (λ ys. x ∷ ys) r
    go true e false k r = cond-false (q x) _ _ k ∙ r
    go false e true k r = absurd (not-both (p x) (h x (inl refl) k) e)
    go false e false k r = r

pub filter-same : {A : Type 0} (p q : A → Bool) (xs : List A) → ((x : A) → In x xs → p x ≡ q x) → filter p xs ≡ filter q xs
filter-same p q [] h = refl
filter-same p q (x ∷ xs) h = ap₂ (λ b ys. cond b (x ∷ ys) ys) (h x (inl refl)) (filter-same p q xs (λ y i. h y (inr i)))
