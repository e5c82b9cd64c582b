-- Sums over lists, one in another.
use Rattle.std.proofs.Common.{◌≡◌, refl, sym, ⊎_elim, inl, inr, ℕ, ◌+◌, ◌*◌, ◌≤◌, Bool, true, false, cond, List, [], ◌∷◌, ◌++◌, length, arith, length-append, mul-le-mul}
use Rattle.std.specs.List.{list_any, flat_map, filter, sum_by}
use Rattle.std.proofs.lemmas.Bool.{or_cases, true≢false, cond-true}
use Rattle.std.proofs.lemmas.List.Recursion.{is_sum_by}
use Rattle.asp_base.specs.Sets.{In}

abbrev pub total : {X : Type 0} → (X → ℕ) → List X → ℕ
total f [] = 0
total f (x ∷ xs) = f x + total f xs

pub sum_by-total : {X : Type 0} (f : X → ℕ) (xs : List X) → sum_by f xs ≡ total f xs
sum_by-total f xs = sym (is_sum_by (total f) f refl (λ x ys. refl) xs)

pub total-le : {X : Type 0} (f g : X → ℕ) (xs : List X) → ((x : X) → In x xs → f x ≤ g x)
    → total f xs ≤ total g xs
total-le f g [] h = omega arith
total-le f g (x ∷ xs) h =
    let here : f x ≤ g x = h x (inl refl) in
    let rest : total f xs ≤ total g xs = total-le f g xs (λ y a. h y (inr a)) in omega arith

pub total-none : {X : Type 0} (f : X → ℕ) (xs : List X) → ((x : X) → In x xs → f x ≡ 0)
    → total f xs ≡ 0
total-none f [] h = refl
total-none f (x ∷ xs) h =
    let here : f x ≡ 0 = h x (inl refl) in
    let rest : total f xs ≡ 0 = total-none f xs (λ y a. h y (inr a)) in omega arith

pub total-both : {X : Type 0} (f g : X → ℕ) (xs : List X)
    → total (λ x. f x + g x) xs ≡ total f xs + total g xs
total-both f g [] = refl
total-both f g (x ∷ xs) = let rest = total-both f g xs in omega arith

pub total-append : {X : Type 0} (f : X → ℕ) (xs ys : List X)
    → total f (xs ++ ys) ≡ total f xs + total f ys
total-append f [] ys = omega arith
total-append f (x ∷ xs) ys = let rest = total-append f xs ys in omega arith

-- a sum of sums, the other one first
pub total-swap : {X Y : Type 0} (f : X → Y → ℕ) (xs : List X) (ys : List Y)
    → total (λ x. total (λ y. f x y) ys) xs ≡ total (λ y. total (λ x. f x y) xs) ys
total-swap f [] ys = sym (total-none (λ y. 0) ys (λ y a. refl))
total-swap f (x ∷ xs) ys =
    let rest = total-swap f xs ys in
    let both = total-both (λ y. f x y) (λ y. total (λ z. f z y) xs) ys in omega arith

pub length-joined : (xss : List (List ℕ)) → length (flat_map (λ xs. xs) xss)
    ≡ total (λ xs. length xs) xss
length-joined [] = refl
length-joined (xs ∷ xss) = let rest = length-joined xss in
    let both = length-append xs (flat_map (λ ys. ys) xss) in omega arith

pub total-kept : {X : Type 0} (test : X → Bool) (f : X → ℕ) (xs : List X)
    → total f (filter test xs) ≡ total (λ x. cond (test x) (f x) 0) xs
total-kept test f [] = refl
total-kept test f (x ∷ xs) = by (test x) (total-kept test f xs)
  where
    by : (b : Bool) → total f (filter test xs) ≡ total (λ y. cond (test y) (f y) 0) xs
        → total f (cond b (x ∷ filter test xs) (filter test xs))
        ≡ cond b (f x) 0 + total (λ y. cond (test y) (f y) 0) xs
    by true e = omega arith
    by false e = omega arith

pub cond-le : (b : Bool) (n m : ℕ) → (b ≡ true → n ≤ m) → cond b n 0 ≤ m
cond-le true n m h = h refl
cond-le false n m h = omega arith

-- a term that is counted at some place of a list
total-some : {X : Type 0} (test : X → Bool) (n : ℕ) (xs : List X) → list_any test xs ≡ true
    → n ≤ total (λ x. cond (test x) n 0) xs
total-some test n [] m = absurd (true≢false (sym m))
total-some test n (x ∷ xs) m = ⊎_elim
    (λ t. let here : cond (test x) n 0 ≡ n = cond-true (test x) n 0 t in omega arith)
    (λ t. let rest : n ≤ total (λ y. cond (test y) n 0) xs = total-some test n xs t in omega arith)
    (or_cases _ _ m)

-- Where each element of one list meets some of another, its sum is within the sum over those of the
-- others that it meets.
pub total-met : {X Y : Type 0} (meets : Y → X → Bool) (f : X → ℕ) (xs : List X) (ys : List Y)
    → ((x : X) → In x xs → list_any (λ y. meets y x) ys ≡ true)
    → total f xs ≤ total (λ y. total f (filter (meets y) xs)) ys
total-met meets f xs ys h =
    let spread : total f xs ≤ total (λ x. total (λ y. cond (meets y x) (f x) 0) ys) xs =
    total-le f (λ x. total (λ y. cond (meets y x) (f x) 0) ys) xs
    (λ x a. total-some (λ y. meets y x) (f x) ys (h x a)) in
    let swapped = total-swap (λ x y. cond (meets y x) (f x) 0) xs ys in
    let kept : total (λ y. total (λ x. cond (meets y x) (f x) 0) xs) ys
    ≤ total (λ y. total f (filter (meets y) xs)) ys =
    total-le (λ y. total (λ x. cond (meets y x) (f x) 0) xs)
    (λ y. total f (filter (meets y) xs)) ys (λ y a. let e = total-kept (meets y) f xs in
    omega arith) in
    omega arith

square-step : (a b t s : ℕ) → s ≤ t * t → a * (a + b) + s ≤ (a + b + t) * (a + b + t)
square-step a b t s h =
    let first : a * (a + b) ≤ (a + b) * (a + b) = mul-le-mul (omega arith) (omega arith) in
    omega arith

pub total-square : {X : Type 0} (f g : X → ℕ) (xs : List X)
    → total (λ x. f x * (f x + g x)) xs ≤ total (λ x. f x + g x) xs * total (λ x. f x + g x) xs
total-square f g [] = omega arith
total-square f g (x ∷ xs) = square-step (f x) (g x) (total (λ y. f y + g y) xs)
    (total (λ y. f y * (f y + g y)) xs) (total-square f g xs)
