-- A list that is cut in two by a test: what fails it, and then what passes it.
use Rattle.std.proofs.Common.{◌≡◌, refl, ◌∙◌, ap, ap₂, ◌+◌, Bool, true, false, not, cond, ◌&&◌, List, [], ◌∷◌, ◌++◌, map, length, length-append, arith}
use Rattle.std.specs.List.{flat_map, filter, count_by, list_all}
use Rattle.std.proofs.lemmas.Bool.{cond-true, cond-false}
use Rattle.std.proofs.lemmas.Grind.{flat_map-append}
use Rattle.std.proofs.lemmas.List.Elements.{filter-append}
use Rattle.std.proofs.lemmas.List.Filters.{length-filter_both}
use Rattle.std.proofs.lemmas.List.Folds.{list_all-append}
use Rattle.std.proofs.lemmas.List.Sums.{length-filter}
use Rattle.asp_base.specs.Literal.{Literal, Pos, Neg, is_positive, atom_of}
use Rattle.asp_base.proofs.Bools.{and_swap, and_assoc}

module _ {A : Type 0} (test : A → Bool) where
  abbrev fails : A → Bool
  fails x = not (test x)

  -- what holds of all elements, holds of the two parts
  pub list_all-parts : (p : A → Bool) (xs : List A) → (list_all p (filter (λ x. not (test x)) xs) && list_all p (filter test xs)) ≡ list_all p xs
  list_all-parts p [] = refl
  list_all-parts p (x ∷ xs) = go (test x) (filter fails xs) (filter test xs) (list_all-parts p xs)
    where
      go : (b : Bool) (us vs : List A) → (list_all p us && list_all p vs) ≡ list_all p xs → (list_all p (cond (not b) (x ∷ us) us) && list_all p (cond b (x ∷ vs) vs)) ≡ (p x && list_all p xs)
      go true us vs h = and_swap (list_all p us) (p x) (list_all p vs) ∙ ap (λ b. p x && b) h
      go false us vs h = and_assoc (p x) (list_all p us) (list_all p vs) ∙ ap (λ b. p x && b) h

  pub list_all-parted : (p : A → Bool) (xs : List A) → list_all p (filter (λ x. not (test x)) xs ++ filter test xs) ≡ list_all p xs
  list_all-parted p xs = list_all-append p (filter fails xs) (filter test xs) ∙ list_all-parts p xs

  pub length-parted : (xs : List A) → length (filter (λ x. not (test x)) xs ++ filter test xs) ≡ length xs
  length-parted xs = omega (arith, length-append (filter fails xs) (filter test xs), length-filter_both test fails (λ x. refl) xs)

  again : (q : A → Bool) (xs : List A) → filter q (filter q xs) ≡ filter q xs
  again q [] = refl
  again q (x ∷ xs) = go (again q xs) (q x) refl
    where
      go : filter q (filter q xs) ≡ filter q xs → (b : Bool) → q x ≡ b → filter q (cond b (x ∷ filter q xs) (filter q xs)) ≡ cond b (x ∷ filter q xs) (filter q xs)
      go k true e = cond-true (q x) (x ∷ filter q (filter q xs)) (filter q (filter q xs)) e ∙ ap (λ ys. x ∷ ys) k
      go k false e = k

  none-fails : (xs : List A) → filter fails (filter test xs) ≡ []
  none-fails [] = refl
  none-fails (x ∷ xs) = go (none-fails xs) (test x) refl
    where
      go : filter fails (filter test xs) ≡ [] → (b : Bool) → test x ≡ b → filter fails (cond b (x ∷ filter test xs) (filter test xs)) ≡ []
      go k true e = cond-false (not (test x)) (x ∷ filter fails (filter test xs)) (filter fails (filter test xs)) (ap not e) ∙ k
      go k false e = k

  -- how many fail it
  pub length-failing : (xs : List A) → length (filter (λ x. not (test x)) (filter (λ x. not (test x)) xs ++ filter test xs)) ≡ count_by (λ x. not (test x)) xs
  length-failing xs =
      ap length (filter-append fails (filter fails xs) (filter test xs))
      ∙ (length-append (filter fails (filter fails xs)) (filter fails (filter test xs))
      ∙ (ap₂ (λ ys zs. length ys + length zs) (again fails xs) (none-fails xs)
      ∙ let k : length (filter fails xs) ≡ count_by fails xs = length-filter fails xs in omega arith))

  -- what is put down for each that passes
  pub pieces : {B : Type 0} (g : A → List B) (xs : List A) → flat_map g (filter test xs) ≡ flat_map (λ x. cond (test x) (g x) []) xs
  pieces g [] = refl
  pieces g (x ∷ xs) = go (pieces g xs) (test x)
    where
      go : flat_map g (filter test xs) ≡ flat_map (λ y. cond (test y) (g y) []) xs
          → (b : Bool) → flat_map g (cond b (x ∷ filter test xs) (filter test xs)) ≡ cond b (g x) [] ++ flat_map (λ y. cond (test y) (g y) []) xs
      go k true = ap (λ ys. g x ++ ys) k
      go k false = k

-- what is put down for each of both parts
pub pieces_of_both : {A B : Type 0} (test : A → Bool) (g : A → List B) (xs : List A)
    → flat_map g (filter (λ x. not (test x)) xs ++ filter test xs) ≡ flat_map (λ x. cond (not (test x)) (g x) []) xs ++ flat_map (λ x. cond (test x) (g x) []) xs
pieces_of_both test g xs =
    flat_map-append g (filter (λ x. not (test x)) xs) (filter test xs) ∙ ap₂ (λ ys zs. ys ++ zs) (pieces (λ x. not (test x)) g xs) (pieces test g xs)

-- those whose values pass
pub map-filter : {A B : Type 0} (f : A → B) (test : B → Bool) (xs : List A) → map f (filter (λ x. test (f x)) xs) ≡ filter test (map f xs)
map-filter f test [] = refl
map-filter f test (x ∷ xs) = go (test (f x)) (map-filter f test xs)
  where
    go : (b : Bool) → map f (filter (λ y. test (f y)) xs) ≡ filter test (map f xs)
        → map f (cond b (x ∷ filter (λ y. test (f y)) xs) (filter (λ y. test (f y)) xs)) ≡ cond b (f x ∷ filter test (map f xs)) (filter test (map f xs))
    go true e = ap (λ ys. f x ∷ ys) e
    go false e = e

-- ---- literals of a sign are those of their atoms

pub negatives-are : (lits : List Literal) → map (λ a. Neg a) (map atom_of (filter (λ l. not (is_positive l)) lits)) ≡ filter (λ l. not (is_positive l)) lits
negatives-are [] = refl
negatives-are (Pos a ∷ lits) = negatives-are lits
negatives-are (Neg a ∷ lits) = ap (λ ls. Neg a ∷ ls) (negatives-are lits)

pub positives-are : (lits : List Literal) → map (λ a. Pos a) (map atom_of (filter is_positive lits)) ≡ filter is_positive lits
positives-are [] = refl
positives-are (Pos a ∷ lits) = ap (λ ls. Pos a ∷ ls) (positives-are lits)
positives-are (Neg a ∷ lits) = positives-are lits
