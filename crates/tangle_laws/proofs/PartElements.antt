-- Elements of lists, and what tests over a list say of them.
use Rattle.std.proofs.Common.{◌≡◌, ◌⊎◌, refl, sym, subst, ⊎_elim, inl, inr, ℕ, Bool, true, ◌==◌, List, [], ◌∷◌, ◌++◌}
use Rattle.std.specs.List.{AllByRecursion, list_any, list_all, flat_map, filter}
use Rattle.std.proofs.lemmas.Bool.{or_cases, or_left, or_right, and_parts, true≢false, eqb-true, eq-eqb, cases_Bool, cond-true, cond-false}
use Rattle.std.proofs.lemmas.List.Folds.{list_any-append}
use Rattle.asp_base.specs.Sets.{In, members}

-- ---- tests

pub any-among : {X : Type 0} (test : X → Bool) (xs : List X) → list_any test xs ≡ true
    → (x : X) × In x xs × (test x ≡ true)
any-among test [] m = absurd (true≢false (sym m))
any-among {X} test (x ∷ xs) m = ⊎_elim (λ e. (x, inl refl, e))
    (λ e. let r : (y : X) × In y xs × (test y ≡ true) = any-among test xs e in
    (r.0, inr r.1, r.2))
    (or_cases _ _ m)

pub among-any : {X : Type 0} (test : X → Bool) (xs : List X) (x : X) → In x xs → test x ≡ true
    → list_any test xs ≡ true
among-any test [] x a t = absurd a
among-any test (y ∷ ys) x a t = ⊎_elim (λ e. or_left _ _ (subst (λ z. test z ≡ true) (sym e) t))
    (λ b. or_right _ _ (among-any test ys x b t)) a

pub all-among : {X : Type 0} (test : X → Bool) (xs : List X) (x : X) → list_all test xs ≡ true
    → In x xs → test x ≡ true
all-among test [] x m a = absurd a
all-among test (y ∷ ys) x m a = ⊎_elim (λ e. subst (λ z. test z ≡ true) e (and_parts _ _ m).0)
    (λ b. all-among test ys x (and_parts _ _ m).1 b) a

pub each-among : {X : Type 0} (P : X → Type 0) (xs : List X) (x : X) → AllByRecursion P xs
    → In x xs → P x
each-among P [] x h a = absurd a
each-among P (y ∷ ys) x h a = ⊎_elim (λ e. subst P e h.0) (λ b. each-among P ys x h.1 b) a

-- ---- numbers

pub member-among : (xs : List ℕ) (a : ℕ) → members xs a ≡ true → In a xs
member-among [] a m = absurd (true≢false (sym m))
member-among (x ∷ xs) a m = ⊎_elim (λ e. inl (eqb-true x a e)) (λ e. inr (member-among xs a e))
    (or_cases _ _ m)

pub among-member : (xs : List ℕ) (a : ℕ) → In a xs → members xs a ≡ true
among-member [] a m = absurd m
among-member (x ∷ xs) a m = ⊎_elim (λ e. or_left _ _ (eq-eqb x a e))
    (λ b. or_right _ _ (among-member xs a b)) m

-- a number of one list in another
pub record Shared (xs ys : List ℕ) : Type 0 where
  pub at : ℕ
  pub one : members xs at ≡ true
  pub other : members ys at ≡ true

pub shared-from_any : (xs ys : List ℕ) → list_any (λ x. members ys x) xs ≡ true → Shared xs ys
shared-from_any xs ys m =
    let r : (x : ℕ) × In x xs × (members ys x ≡ true) = any-among (λ x. members ys x) xs m in
    record { at = r.0; one = among-member xs r.0 r.1; other = r.2 }

pub any-from_shared : (xs ys : List ℕ) (a : ℕ) → members xs a ≡ true → members ys a ≡ true
    → list_any (λ x. members ys x) xs ≡ true
any-from_shared xs ys a m n = among-any (λ x. members ys x) xs a (member-among xs a m) n

pub member-left : (xs ys : List ℕ) (a : ℕ) → members xs a ≡ true → members (xs ++ ys) a ≡ true
member-left xs ys a m = rw (list_any-append (λ x. x == a) xs ys) (or_left _ _ m)

pub member-right : (xs ys : List ℕ) (a : ℕ) → members ys a ≡ true → members (xs ++ ys) a ≡ true
member-right xs ys a m = rw (list_any-append (λ x. x == a) xs ys) (or_right _ _ m)

-- ---- joined lists

among-left : {X : Type 0} (xs ys : List X) (x : X) → In x xs → In x (xs ++ ys)
among-left [] ys x a = absurd a
among-left (z ∷ xs) ys x a = ⊎_elim (λ e. inl e) (λ b. inr (among-left xs ys x b)) a

among-right : {X : Type 0} (xs ys : List X) (x : X) → In x ys → In x (xs ++ ys)
among-right [] ys x a = a
among-right (z ∷ xs) ys x a = inr (among-right xs ys x a)

among-cases : {X : Type 0} (xs ys : List X) (x : X) → In x (xs ++ ys) → In x xs ⊎ In x ys
among-cases [] ys x a = inr a
among-cases (z ∷ xs) ys x a = ⊎_elim (λ e. inl (inl e))
    (λ b. ⊎_elim (λ c. inl (inr c)) (λ c. inr c) (among-cases xs ys x b)) a

pub among-flat : {X Y : Type 0} (f : X → List Y) (xs : List X) (y : Y) → In y (flat_map f xs)
    → (x : X) × In x xs × In y (f x)
among-flat f [] y a = absurd a
among-flat {X} f (x ∷ xs) y a = ⊎_elim (λ b. (x, inl refl, b))
    (λ b. let r : (z : X) × In z xs × In y (f z) = among-flat f xs y b in (r.0, inr r.1, r.2))
    (among-cases (f x) (flat_map f xs) y a)

pub flat-among : {X Y : Type 0} (f : X → List Y) (xs : List X) (x : X) (y : Y) → In x xs
    → In y (f x) → In y (flat_map f xs)
flat-among f [] x y a b = absurd a
flat-among f (z ∷ xs) x y a b =
    ⊎_elim (λ e. among-left (f z) (flat_map f xs) y (subst (λ w. In y (f w)) (sym e) b))
    (λ c. among-right (f z) (flat_map f xs) y (flat-among f xs x y c b)) a

pub member-flat : {X : Type 0} (f : X → List ℕ) (xs : List X) (x : X) (a : ℕ) → In x xs
    → members (f x) a ≡ true → members (flat_map f xs) a ≡ true
member-flat f xs x a b m = among-member (flat_map f xs) a
    (flat-among f xs x a b (member-among (f x) a m))

-- ---- kept elements

pub kept-among : {X : Type 0} (test : X → Bool) (xs : List X) (x : X) → In x (filter test xs)
    → In x xs × (test x ≡ true)
kept-among test [] x a = absurd a
kept-among test (y ∷ ys) x a = ⊎_elim
    (λ t. ⊎_elim (λ e. (inl e, subst (λ z. test z ≡ true) e t))
    (λ b. let r = kept-among test ys x b in (inr r.0, r.1))
    (subst (λ zs. In x zs) (cond-true (test y) (y ∷ filter test ys) (filter test ys) t) a))
    (λ t. let r = kept-among test ys x (subst (λ zs. In x zs)
    (cond-false (test y) (y ∷ filter test ys) (filter test ys) t) a) in (inr r.0, r.1))
    (cases_Bool (test y))
