-- Membership in lists, and lists that are made of others.
use Rattle.std.proofs.Common.{◌≡◌, refl, sym, ◌∙◌, ap, subst, ℕ, Bool, true, false, cond, ◌&&◌, ◌==◌, List, [], ◌∷◌, ◌++◌, map, filter, ⊎_elim, inl, inr, ◌⊎◌}
use Rattle.std.specs.List.{list_any, list_all, flat_map, AllByRecursion}
use Rattle.std.proofs.lemmas.Bool.{and_parts, and_from, or_cases, or_left, or_right, or_parts, or_from, true≢false, eqb-true, eq-eqb}
use Rattle.asp_base.specs.Sets.{members, In}

pub in-left : {A : Type 0} (xs ys : List A) (x : A) → In x xs → In x (xs ++ ys)
in-left [] ys x h = absurd h
in-left (z ∷ xs) ys x h = ⊎_elim (λ e. inl e) (λ e. inr (in-left xs ys x e)) h

pub in-right : {A : Type 0} (xs ys : List A) (x : A) → In x ys → In x (xs ++ ys)
in-right [] ys x h = h
in-right (z ∷ xs) ys x h = inr (in-right xs ys x h)

pub in-append : {A : Type 0} (xs ys : List A) (x : A) → In x (xs ++ ys) → In x xs ⊎ In x ys
in-append [] ys x h = inr h
in-append (z ∷ xs) ys x h = ⊎_elim (λ e. inl (inl e)) (λ e. ⊎_elim (λ k. inl (inr k)) (λ k. inr k) (in-append xs ys x e)) h

pub in-map : {A B : Type 0} (f : A → B) (xs : List A) (x : A) → In x xs → In (f x) (map f xs)
in-map f [] x h = absurd h
in-map f (z ∷ xs) x h = ⊎_elim (λ e. inl (ap f e)) (λ e. inr (in-map f xs x e)) h

pub map-in : {A B : Type 0} (f : A → B) (xs : List A) (y : B) → In y (map f xs) → (x : A) × In x xs × (f x ≡ y)
map-in f [] y h = absurd h
map-in f (z ∷ xs) y h = ⊎_elim (λ e. (z, inl refl, e)) (λ e. let k : (x : _) × In x xs × (f x ≡ y) = map-in f xs y e in (k.0, inr k.1, k.2)) h

pub in-flat : {A B : Type 0} (f : A → List B) (xs : List A) (x : A) (y : B) → In x xs → In y (f x) → In y (flat_map f xs)
in-flat f [] x y h k = absurd h
in-flat f (z ∷ xs) x y h k = ⊎_elim (λ e. in-left (f z) (flat_map f xs) y (subst (λ w. In y (f w)) (sym e) k)) (λ e. in-right (f z) (flat_map f xs) y (in-flat f xs x y e k)) h

pub flat-in : {A B : Type 0} (f : A → List B) (xs : List A) (y : B) → In y (flat_map f xs) → (x : A) × In x xs × In y (f x)
flat-in f [] y h = absurd h
flat-in f (z ∷ xs) y h = ⊎_elim (λ e. (z, inl refl, e)) (λ e. let k : (x : _) × In x xs × In y (f x) = flat-in f xs y e in (k.0, inr k.1, k.2)) (in-append (f z) (flat_map f xs) y h)

pub in-filter : {A : Type 0} (p : A → Bool) (xs : List A) (x : A) → In x xs → p x ≡ true → In x (filter p xs)
in-filter p [] x h k = absurd h
in-filter p (z ∷ xs) x h k = go (p z) refl h (λ e. in-filter p xs x e k)
  where
    go : (b : Bool) → p z ≡ b → (z ≡ x) ⊎ In x xs → (In x xs → In x (filter p xs)) → In x (cond b (z ∷ filter p xs) (filter p xs))
    go true q d rest = ⊎_elim (λ e. inl e) (λ e. inr (rest e)) d
    go false q d rest = ⊎_elim (λ e. absurd (true≢false (sym k ∙ (ap p (sym e) ∙ q)))) rest d

pub filter-in : {A : Type 0} (p : A → Bool) (xs : List A) (x : A) → In x (filter p xs) → In x xs × (p x ≡ true)
filter-in p [] x h = absurd h
filter-in p (z ∷ xs) x h = go (p z) refl h (λ e. filter-in p xs x e)
  where
    go : (b : Bool) → p z ≡ b → In x (cond b (z ∷ filter p xs) (filter p xs)) → (In x (filter p xs) → In x xs × (p x ≡ true)) → In x (z ∷ xs) × (p x ≡ true)
    go true q d rest = ⊎_elim (λ e. (inl e, ap p (sym e) ∙ q)) (λ e. let k : In x xs × (p x ≡ true) = rest e in (inr k.0, k.1)) d
    go false q d rest = let k : In x xs × (p x ≡ true) = rest d in (inr k.0, k.1)

pub any-in : {A : Type 0} (p : A → Bool) (xs : List A) → list_any p xs ≡ true → (x : A) × In x xs × (p x ≡ true)
any-in p [] h = absurd (true≢false (sym h))
any-in p (z ∷ xs) h = ⊎_elim (λ e. (z, inl refl, e)) (λ e. let k : (x : _) × In x xs × (p x ≡ true) = any-in p xs e in (k.0, inr k.1, k.2)) (or_cases (p z) (list_any p xs) h)

pub in-any : {A : Type 0} (p : A → Bool) (xs : List A) (x : A) → In x xs → p x ≡ true → list_any p xs ≡ true
in-any p [] x h k = absurd h
in-any p (z ∷ xs) x h k = ⊎_elim (λ e. or_left (p z) (list_any p xs) (ap p e ∙ k)) (λ e. or_right (p z) (list_any p xs) (in-any p xs x e k)) h

pub all-in : {A : Type 0} (p : A → Bool) (xs : List A) (x : A) → list_all p xs ≡ true → In x xs → p x ≡ true
all-in p [] x h k = absurd k
all-in p (z ∷ xs) x h k = let j : (p z ≡ true) × (list_all p xs ≡ true) = and_parts (p z) (list_all p xs) h in ⊎_elim (λ e. ap p (sym e) ∙ j.0) (λ e. all-in p xs x j.1 e) k

pub in-all : {A : Type 0} (p : A → Bool) (xs : List A) → ((x : A) → In x xs → p x ≡ true) → list_all p xs ≡ true
in-all p [] h = refl
in-all p (z ∷ xs) h = and_from (p z) (list_all p xs) (h z (inl refl)) (in-all p xs (λ x k. h x (inr k)))

-- an element that fails
pub fails-in : {A : Type 0} (p : A → Bool) (xs : List A) → list_all p xs ≡ false → (x : A) × In x xs × (p x ≡ false)
fails-in p [] h = absurd (true≢false h)
fails-in {A} p (z ∷ xs) h = go (p z) refl h (λ d. fails-in p xs d)
  where
    go : (b : Bool) → p z ≡ b → (b && list_all p xs) ≡ false → (list_all p xs ≡ false → (x : A) × In x xs × (p x ≡ false)) → (x : A) × In x (z ∷ xs) × (p x ≡ false)
    go true q d rest = let k : (x : A) × In x xs × (p x ≡ false) = rest d in (k.0, inr k.1, k.2)
    go false q d rest = (z, inl refl, q)

pub none-in : {A : Type 0} (p : A → Bool) (xs : List A) (x : A) → list_any p xs ≡ false → In x xs → p x ≡ false
none-in p [] x h k = absurd k
none-in p (z ∷ xs) x h k = let j : (p z ≡ false) × (list_any p xs ≡ false) = or_parts (p z) (list_any p xs) h in ⊎_elim (λ e. ap p (sym e) ∙ j.0) (λ e. none-in p xs x j.1 e) k

pub in-none : {A : Type 0} (p : A → Bool) (xs : List A) → ((x : A) → In x xs → p x ≡ false) → list_any p xs ≡ false
in-none p [] h = refl
in-none p (z ∷ xs) h = or_from (p z) (list_any p xs) (h z (inl refl)) (in-none p xs (λ x k. h x (inr k)))

pub each-in : {A : Type 0} (P : A → Type 0) (xs : List A) (x : A) → AllByRecursion P xs → In x xs → P x
each-in P [] x h k = absurd k
each-in P (z ∷ xs) x h k = ⊎_elim (λ e. subst P e h.0) (λ e. each-in P xs x h.1 e) k

pub in-each : {A : Type 0} (P : A → Type 0) (xs : List A) → ((x : A) → In x xs → P x) → AllByRecursion P xs
in-each P [] h = tt
in-each P (z ∷ xs) h = (h z (inl refl), in-each P xs (λ x k. h x (inr k)))

pub member-in : (xs : List ℕ) (a : ℕ) → members xs a ≡ true → In a xs
member-in [] a h = absurd (true≢false (sym h))
member-in (x ∷ xs) a h = ⊎_elim (λ e. inl (eqb-true x a e)) (λ e. inr (member-in xs a e)) (or_cases (x == a) (members xs a) h)

pub in-member : (xs : List ℕ) (a : ℕ) → In a xs → members xs a ≡ true
in-member [] a h = absurd h
in-member (x ∷ xs) a h = ⊎_elim (λ e. or_left (x == a) (members xs a) (eq-eqb x a e)) (λ e. or_right (x == a) (members xs a) (in-member xs a e)) h

-- tests
pub false-from : (b : Bool) → (b ≡ true → ⊥) → b ≡ false
false-from true h = absurd (h refl)
false-from false h = refl

pub not-both : (b : Bool) → b ≡ true → b ≡ false → ⊥
not-both b h k = true≢false (sym h ∙ k)
