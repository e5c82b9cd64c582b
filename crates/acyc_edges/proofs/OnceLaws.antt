-- Each number where it stands first, from the front on.
use Rattle.std.proofs.Common.{◌≡◌, refl, sym, ◌∙◌, ap, subst, ℕ, suc, ◌<◌, ◌+◌, Bool, true, false, cond, not, ◌||◌, ◌==◌, List, [], ◌∷◌, ◌++◌, filter, take, length, slice_index_or, ⊎_elim, arith}
use Rattle.std.specs.List.{list_any}
use Rattle.std.specs.Bool.{if◌then◌else◌}
use Rattle.indexmap.specs.IndexSet.{insert_key}
use Rattle.std.proofs.lemmas.Bool.{cases_Bool, eqb-true, eq-eqb, cond-true, cond-false, or_left}
use Rattle.acyc_edges.proofs.Inside.{in-any, any-in, in-filter, filter-in, false-from, not-both}
use Rattle.acyc_edges.proofs.Numbering.{filter-append, take-more}
use Rattle.asp_base.specs.Sets.{once, In}

-- behind the others, where it is not among them
pub with_one : List ℕ → ℕ → List ℕ
with_one xs x = cond (list_any (λ y. x == y) xs) xs (xs ++ (x ∷ []))

filter-one : (p : ℕ → Bool) (xs : List ℕ) (x : ℕ) → p x ≡ true → filter p (with_one xs x) ≡ with_one (filter p xs) x
unfolding with_one
filter-one p xs x h = ⊎_elim
    (λ e. ap (filter p) (cond-true (list_any (λ y. x == y) xs) _ _ e)
    ∙ sym (cond-true (list_any (λ y. x == y) (filter p xs)) _ _
    (let k : (y : ℕ) × In y xs × ((x == y) ≡ true) = any-in (λ y. x == y) xs e in
    in-any (λ y. x == y) (filter p xs) k.0 (in-filter p xs k.0 k.1 (subst (λ z. p z ≡ true) (eqb-true x k.0 k.2) h)) k.2)))
    (λ e. ap (filter p) (cond-false (list_any (λ y. x == y) xs) _ _ e)
    ∙ (filter-append p xs (x ∷ []) ∙ (ap (λ zs. filter p xs ++ zs) (cond-true (p x) _ _ h)
    ∙ sym (cond-false (list_any (λ y. x == y) (filter p xs)) _ _
    (false-from (list_any (λ y. x == y) (filter p xs)) (λ t. let k : (y : ℕ) × In y (filter p xs) × ((x == y) ≡ true) = any-in (λ y. x == y) (filter p xs) t in
    not-both (list_any (λ y. x == y) xs) (in-any (λ y. x == y) xs k.0 ((filter-in p xs k.0 k.1).0) k.2) e))))))
    (cases_Bool (list_any (λ y. x == y) xs))

filter-none : (xs : List ℕ) (x : ℕ) → filter (λ y. not (x == y)) (with_one xs x) ≡ filter (λ y. not (x == y)) xs
unfolding with_one
filter-none xs x = ⊎_elim
    (λ e. ap (filter (λ y. not (x == y))) (cond-true (list_any (λ y. x == y) xs) _ _ e))
    (λ e. ap (filter (λ y. not (x == y))) (cond-false (list_any (λ y. x == y) xs) _ _ e)
    ∙ (filter-append (λ y. not (x == y)) xs (x ∷ []) ∙ (ap (λ zs. filter (λ y. not (x == y)) xs ++ zs) (cond-false (not (x == x)) _ _ (ap not (eq-eqb x x refl))) ∙ nil (filter (λ y. not (x == y)) xs))))
    (cases_Bool (list_any (λ y. x == y) xs))
  where
    nil : (zs : List ℕ) → zs ++ [] ≡ zs
    nil [] = refl
    nil (z ∷ zs) = ap (λ ws. z ∷ ws) (nil zs)

pub once-more : (xs : List ℕ) (x : ℕ) → once (xs ++ (x ∷ [])) ≡ with_one (once xs) x
unfolding with_one
once-more [] x = refl
once-more (y ∷ ys) x =
    ap (λ zs. y ∷ filter (λ z. not (y == z)) zs) (once-more ys x)
    ∙ ⊎_elim
    (λ e. ap (λ zs. y ∷ zs) (subst (λ w. filter (λ z. not (w == z)) (with_one (once ys) x) ≡ filter (λ z. not (w == z)) (once ys)) (eqb-true x y e) (filter-none (once ys) x))
    ∙ sym (cond-true ((x == y) || list_any (λ z. x == z) (filter (λ z. not (y == z)) (once ys))) _ _ (or_left (x == y) _ e)))
    (λ e. ap (λ zs. y ∷ zs) (filter-one (λ z. not (y == z)) (once ys) x (ap not (turned y x e)))
    ∙ go (x == y) e (list_any (λ z. x == z) (filter (λ z. not (y == z)) (once ys))) (filter (λ z. not (y == z)) (once ys)))
    (cases_Bool (x == y))
  where
    turned : (a b : ℕ) → (b == a) ≡ false → (a == b) ≡ false
    turned a b e = false-from (a == b) (λ t. not-both (b == a) (eq-eqb b a (sym (eqb-true a b t))) e)

    go : (a : Bool) → a ≡ false → (b : Bool) (zs : List ℕ) → y ∷ cond b zs (zs ++ (x ∷ [])) ≡ cond (a || b) (y ∷ zs) (y ∷ (zs ++ (x ∷ [])))
    go true e b zs = absurd (not-both true refl e)
    go false e true zs = refl
    go false e false zs = refl

-- one round
pub once-step : (xs : List ℕ) (i : ℕ) → i < length xs → once (take (i + 1) xs) ≡ with_one (once (take i xs)) (slice_index_or xs i 0)
once-step xs i h =
    ap (λ k. once (take k xs)) (let e : i + 1 ≡ suc i = omega arith in e) ∙ (ap once (take-more xs i 0 h) ∙ once-more (take i xs) (slice_index_or xs i 0))

pub with_one-new : (xs : List ℕ) (x : ℕ) → list_any (λ y. x == y) xs ≡ false → with_one xs x ≡ xs ++ (x ∷ [])
unfolding with_one
with_one-new xs x h = cond-false (list_any (λ y. x == y) xs) _ _ h

pub with_one-old : (xs : List ℕ) (x : ℕ) → list_any (λ y. x == y) xs ≡ true → with_one xs x ≡ xs
unfolding with_one
with_one-old xs x h = cond-true (list_any (λ y. x == y) xs) _ _ h

-- an insertion into a set of keys
pub key-one : (xs : List ℕ) (x : ℕ) → insert_key ◌==◌ xs x ≡ with_one xs x
unfolding with_one
key-one xs x = go (list_any (λ y. x == y) xs) xs (xs ++ (x ∷ []))
  where
    go : (b : Bool) (ys zs : List ℕ) → (if b then ys else zs) ≡ cond b ys zs
    go true ys zs = refl
    go false ys zs = refl

pub new-key : (b : Bool) → not b ≡ true → b ≡ false
new-key true h = sym h
new-key false h = refl

pub old-key : (b : Bool) → not b ≡ false → b ≡ true
old-key true h = refl
old-key false h = sym h
