-- Words with a blank before each.
use Rattle.std.proofs.Common.{◌≡◌, refl, sym, ◌∙◌, ap, ℕ, List, [], ◌∷◌, ◌++◌, map, append_assoc, append-nil}
use Rattle.std.specs.List.{flat_map}
use Rattle.asp_scan.specs.Words.{spaced, Ends}
use Rattle.statement_fields.specs.FieldWords.{spaced_before}

-- a blank or the end follows what stands before them
pub spaced_before-ends : (words : List (List ℕ)) → Ends (spaced_before words)
spaced_before-ends [] = refl
spaced_before-ends (word ∷ words) = refl

pub spaced_before-append : (xs ys : List (List ℕ)) → spaced_before (xs ++ ys) ≡ spaced_before xs ++ spaced_before ys
spaced_before-append [] ys = refl
spaced_before-append (word ∷ xs) ys =
    ap (λ bytes. (32 ∷ word) ++ bytes) (spaced_before-append xs ys) ∙ sym (append_assoc (32 ∷ word) (spaced_before xs) (spaced_before ys))

-- a word of each entry
pub spaced_before-map : {A : Type 0} (word : A → List ℕ) (xs : List A) → spaced_before (map word xs) ≡ flat_map (λ x. 32 ∷ word x) xs
spaced_before-map word [] = refl
spaced_before-map word (x ∷ xs) = ap (λ bytes. (32 ∷ word x) ++ bytes) (spaced_before-map word xs)

-- several words of each entry
pub spaced_before-flat_map : {A : Type 0} (words : A → List (List ℕ)) (xs : List A) → spaced_before (flat_map words xs) ≡ flat_map (λ x. spaced_before (words x)) xs
spaced_before-flat_map words [] = refl
spaced_before-flat_map words (x ∷ xs) =
    spaced_before-append (words x) (flat_map words xs) ∙ ap (λ bytes. spaced_before (words x) ++ bytes) (spaced_before-flat_map words xs)

-- a line of words is its first one with the others behind blanks
pub spaced-before : (word : List ℕ) (words : List (List ℕ)) → spaced (word ∷ words) ≡ word ++ spaced_before words
spaced-before word [] = sym (append-nil word)
spaced-before word (next ∷ words) = ap (λ bytes. word ++ (32 ∷ bytes)) (spaced-before next words)

-- words made of each entry, one by one
pub map-words : {A : Type 0} (word : A → List ℕ) (xs : List A) → map word xs ≡ flat_map (λ x. word x ∷ []) xs
map-words word [] = refl
map-words word (x ∷ xs) = ap (λ words. word x ∷ words) (map-words word xs)
