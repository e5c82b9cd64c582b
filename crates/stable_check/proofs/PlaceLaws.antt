-- Lists that have an entry for each atom, and the entry at an atom's place.
use Rattle.std.proofs.Common.{◌≡◌, refl, sym, ◌∙◌, ap, ap₂, ℕ, suc, ◌-◌, ◌<◌, ◌≤◌, ◌==◌, true, cond, List, [], ◌∷◌, length, map, set, get_or, ⊎_elim, arith}
use Rattle.std.proofs.lemmas.Bool.{or_cases, true≢false, eqb-true, ne_eqb, cond-true, cond-false}
use Rattle.asp_base.specs.Sets.{members}
use Rattle.rising_numbers.specs.Rising.{RisesFrom}
use Rattle.rising_numbers.specs.Rising.{place}
use Rattle.rising_numbers.proofs.PlaceLaws.{place-within}
use Rattle.rising_numbers.proofs.RisingLaws.{members-above}

place-first : (x : ℕ) (xs : List ℕ) (a : ℕ) → (x == a) ≡ true → place (x ∷ xs) a - 1 ≡ 0
place-first x xs a here = ap (λ n. n - 1) (cond-true (x == a) 1 (cond (members xs a) (suc (place xs a)) 0) here)

place-later : (x : ℕ) (xs : List ℕ) (a : ℕ) → RisesFrom x xs → members xs a ≡ true → place (x ∷ xs) a - 1 ≡ suc (place xs a - 1)
place-later x xs a rise later =
    let above : x < a = members-above x xs a rise later in
    let within : (0 < place xs a) × (place xs a ≤ length xs) = place-within xs a later in
    let some : 0 < place xs a = within.0 in
    let further : suc (place xs a) - 1 ≡ suc (place xs a - 1) = omega arith in
    ap (λ n. n - 1) (cond-false (x == a) 1 (cond (members xs a) (suc (place xs a)) 0) (ne_eqb x a (λ e. omega arith)) ∙ cond-true (members xs a) (suc (place xs a)) 0 later) ∙ further

pub get-at_place : {B : Type 0} (low : ℕ) (xs : List ℕ) (f : ℕ → B) (a : ℕ) (d : B) → RisesFrom low xs → members xs a ≡ true → get_or (map f xs) (place xs a - 1) d ≡ f a
get-at_place low [] f a d rise m = absurd (true≢false (sym m))
get-at_place low (x ∷ xs) f a d rise m = ⊎_elim
    (λ here. ap (λ n. get_or (map f (x ∷ xs)) n d) (place-first x xs a here) ∙ ap f (eqb-true x a here))
    (λ later. ap (λ n. get_or (map f (x ∷ xs)) n d) (place-later x xs a rise.1 later) ∙ get-at_place x xs f a d rise.1 later)
    (or_cases (x == a) (members xs a) m)

-- all that stands behind a number differs from it
set-other : {B : Type 0} (low : ℕ) (xs : List ℕ) (f : ℕ → B) (a : ℕ) (v : B) → RisesFrom low xs → a ≤ low → map f xs ≡ map (λ x. cond (x == a) v (f x)) xs
set-other low [] f a v rise h = refl
set-other {B} low (x ∷ xs) f a v rise h =
    let up : low < x = rise.0 in
    ap₂ (λ (y : B) (ys : List B). y ∷ ys) (sym (cond-false (x == a) v (f x) (ne_eqb x a (λ e. omega arith)))) (set-other x xs f a v rise.1 (omega arith))

pub set-at_place : {B : Type 0} (low : ℕ) (xs : List ℕ) (f : ℕ → B) (a : ℕ) (v : B) → RisesFrom low xs → members xs a ≡ true → set (map f xs) (place xs a - 1) v ≡ map (λ x. cond (x == a) v (f x)) xs
set-at_place low [] f a v rise m = absurd (true≢false (sym m))
set-at_place {B} low (x ∷ xs) f a v rise m = ⊎_elim
    (λ here.
    let is : x ≡ a = eqb-true x a here in
    ap (λ n. set (map f (x ∷ xs)) n v) (place-first x xs a here)
    ∙ ap₂ (λ (y : B) (ys : List B). y ∷ ys) (sym (cond-true (x == a) v (f x) here)) (set-other x xs f a v rise.1 (omega arith)))
    (λ later.
    let above : x < a = members-above x xs a rise.1 later in
    ap (λ n. set (map f (x ∷ xs)) n v) (place-later x xs a rise.1 later)
    ∙ ap₂ (λ (y : B) (ys : List B). y ∷ ys) (sym (cond-false (x == a) v (f x) (ne_eqb x a (λ e. omega arith)))) (set-at_place x xs f a v rise.1 later))
    (or_cases (x == a) (members xs a) m)
