-- The parts of a list are short, and make it one behind another.
use Rattle.std.proofs.Common.{◌≡◌, refl, sym, ◌∙◌, ap, subst, ℕ, zero, suc, ◌-◌, ◌^◌, ◌≤◌, ◌<◌, nat_le, List, [], ◌∷◌, ◌++◌, length, map, take, drop, append-nil, arith}
use Rattle.std.specs.List.{AllByRecursion, flat_map}
use Rattle.std.proofs.lemmas.Bool.{cond_both, leb-true, leb-false}
use Rattle.std.proofs.lemmas.List.{map-append, take-append-drop, length-drop, length-take-le}
use Rattle.asp_base.proofs.Each.{each-both, each-pieces}
use Rattle.ground_program.specs.Facts.{IsShort}
use Rattle.aspif_format.specs.Written.{parts_within, parts}

-- the lists of a list, one behind another
abbrev pub joined : {A : Type 0} → List (List A) → List A
joined lists = flat_map (λ xs. xs) lists

pub map-joined : {A B : Type 0} (f : A → B) (lists : List (List A)) → flat_map (λ xs. map f xs) lists ≡ map f (joined lists)
map-joined f [] = refl
map-joined f (xs ∷ rest) = ap (λ ys. map f xs ++ ys) (map-joined f rest) ∙ sym (map-append f xs (joined rest))

-- a list that one part holds, and a longer one
parts-cases : {A : Type 0} (more most : ℕ) (xs : List A) (P : List (List A) → Type 0)
    → (length xs ≤ most → P (xs ∷ [])) → (most < length xs → P (take most xs ∷ parts_within more most (drop most xs))) → P (parts_within (suc more) most xs)
parts-cases more most xs P short long =
    cond_both (nat_le (length xs) most) (xs ∷ []) (take most xs ∷ parts_within more most (drop most xs)) P
    (λ e. short (leb-true (length xs) most e))
    (λ e. long (leb-false (length xs) most e))

-- what is left behind the first part needs fewer steps
less-left : {A : Type 0} (more most : ℕ) (xs : List A) → 0 < most → length xs < suc more → most < length xs → length (drop most xs) < more
less-left more most xs some h long = let left : length (drop most xs) ≡ length xs - most = length-drop most xs in omega arith

joined-within : {A : Type 0} (fuel most : ℕ) (xs : List A) → 0 < most → length xs < fuel → joined (parts_within fuel most xs) ≡ xs
joined-within zero most xs some h = absurd (omega arith)
joined-within (suc more) most xs some h = parts-cases more most xs (λ ps. joined ps ≡ xs)
    (λ short. append-nil xs)
    (λ long. ap (λ ys. take most xs ++ ys) (joined-within more most (drop most xs) some (less-left more most xs some h long)) ∙ take-append-drop most xs)

short-within : {A : Type 0} (fuel most : ℕ) (xs : List A) → AllByRecursion (λ ys. length ys ≤ most) (parts_within fuel most xs)
short-within zero most xs = tt
short-within (suc more) most xs = parts-cases more most xs (AllByRecursion (λ ys. length ys ≤ most))
    (λ short. (short, tt))
    (λ long. (let size : length (take most xs) ≡ most = length-take-le most xs (omega arith) in omega arith, short-within more most (drop most xs)))

pub joined-parts : {A : Type 0} (xs : List A) → joined (parts xs) ≡ xs
joined-parts xs = joined-within (suc (length xs)) (2 ^ 24) xs (omega arith) (omega arith)

-- there is a first part
pub some-parts : {A : Type 0} (xs : List A) → 0 < length (parts xs)
some-parts xs = parts-cases (length xs) (2 ^ 24) xs (λ ps. 0 < length ps) (λ short. omega arith) (λ long. omega arith)

-- each part is short, and what holds of each entry holds of those of a part
pub each-part : {A : Type 0} (P : A → Type 0) (xs : List A) → AllByRecursion P xs → AllByRecursion (λ ys. IsShort ys × AllByRecursion P ys) (parts xs)
each-part P xs h =
    each-both (λ ys. length ys ≤ 2 ^ 24) (AllByRecursion P) (λ ys. IsShort ys × AllByRecursion P ys) (λ ys s k. (s, k)) (parts xs)
    (short-within (suc (length xs)) (2 ^ 24) xs)
    (each-pieces P (λ ys. ys) (parts xs) (subst (AllByRecursion P) (sym (joined-parts xs)) h))

-- as many steps as there are entries suffice
within-any : {A : Type 0} (f g most : ℕ) (xs : List A) → 0 < most → length xs < f → length xs < g → parts_within f most xs ≡ parts_within g most xs
within-any zero g most xs some h k = absurd (omega arith)
within-any (suc f) zero most xs some h k = absurd (omega arith)
within-any (suc f) (suc g) most xs some h k =
    parts-cases f most xs (λ ps. ps ≡ parts_within (suc g) most xs)
    (λ short. parts-cases g most xs (λ ps. xs ∷ [] ≡ ps) (λ s. refl) (λ l. absurd (omega arith)))
    (λ long. parts-cases g most xs (λ ps. take most xs ∷ parts_within f most (drop most xs) ≡ ps)
    (λ s. absurd (omega arith))
    (λ l. ap (λ ps. take most xs ∷ ps) (within-any f g most (drop most xs) some (less-left f most xs some h long) (less-left g most xs some k long))))

-- the first part of a long list, and the parts of what is left
pub parts-long : {A : Type 0} (xs : List A) → 2 ^ 24 < length xs → parts xs ≡ take (2 ^ 24) xs ∷ parts (drop (2 ^ 24) xs)
parts-long xs long =
    parts-cases (length xs) (2 ^ 24) xs (λ ps. ps ≡ take (2 ^ 24) xs ∷ parts (drop (2 ^ 24) xs))
    (λ short. absurd (omega arith))
    (λ l. ap (λ ps. take (2 ^ 24) xs ∷ ps) (within-any (length xs) (suc (length (drop (2 ^ 24) xs))) (2 ^ 24) (drop (2 ^ 24) xs) (omega arith)
    (less-left (length xs) (2 ^ 24) xs (omega arith) (omega arith) long) (omega arith)))
