-- What is appended to a text: what stands in front stays there, and a part is no longer than the whole.
use Rattle.std.proofs.Common.{◌≡◌, ◌∙◌, sym, ap, ℕ, ◌+◌, ◌<◌, ◌≤◌, List, [], ◌∷◌, ◌++◌, length, take, slice_get, Some, Result, Ok, Err, OnOk, OnErr, IfErr, arith, rules}
use Rattle.std.specs.List.{AllByRecursion, flat_map}
use Rattle.std.proofs.lemmas.List.{length-append, take-take, take_more}
use Rattle.std.proofs.lemmas.Option.{slice_get_within, get_or_from_slice_get}
use Rattle.std.proofs.Math.Seq.{take-append_seam}
use Rattle.asp_scan.specs.Words.{spaced, line_of}

-- ---- outcomes

pub on_err : {T E : Type 0} (P : Type 0) (r : Result T E) → P → OnErr r P
on_err P (Ok x) h = search rules
on_err P (Err e) h = h

pub on_ok-weaker : {A E P Q : Type 0} (r : Result A E) → (P → Q) → OnOk r P → OnOk r Q
on_ok-weaker (Ok x) f h = f h
on_ok-weaker (Err e) f h = tt

pub if_err-weaker : {A E : Type 0} (P Q : E → Type 0) (r : Result A E) → ((e : E) → P e → Q e) → IfErr r P → IfErr r Q
if_err-weaker P Q (Ok x) f h = tt
if_err-weaker P Q (Err e) f h = f e h

-- ---- fronts

-- what began a list that stands at the front of another
pub front_kept : (xs ys rest zs : List ℕ) → ys ≡ xs ++ rest → take (length ys) zs ≡ ys → take (length xs) zs ≡ xs
front_kept xs ys rest zs e h =
    let within : length xs ≤ length ys = omega (arith, length-append xs rest, ap length e) in
    sym (take-take (length xs) (length ys) zs within) ∙ ap (take (length xs)) (h ∙ e) ∙ take-append_seam xs rest

-- also where a later append may have failed
pub on_err-kept : {T E : Type 0} (r : Result T E) (xs ys rest zs : List ℕ) → ys ≡ xs ++ rest → OnErr r (take (length ys) zs ≡ ys) → OnErr r (take (length xs) zs ≡ xs)
on_err-kept (Ok x) xs ys rest zs e h = h
on_err-kept (Err x) xs ys rest zs e h = front_kept xs ys rest zs e h

-- the same text, where the append may have failed
pub on_ok-same : {T E : Type 0} (r : Result T E) (old new a b : List ℕ) → a ≡ b → OnOk r (new ≡ old ++ a) → OnOk r (new ≡ old ++ b)
on_ok-same (Ok x) old new a b e h = h ∙ ap (λ bytes. old ++ bytes) e
on_ok-same (Err x) old new a b e h = h

pub take_read : {A : Type 0} (xs : List A) (i : ℕ) (x : A) → slice_get xs i ≡ Some x → take (i + 1) xs ≡ take i xs ++ (x ∷ [])
take_read xs i x h = take_more xs i x (slice_get_within xs i x h) ∙ ap (λ y. take i xs ++ (y ∷ [])) (get_or_from_slice_get xs i x x h)

-- ---- lengths

-- the end of a list is no longer than the list
pub behind-within : (xs ys : List ℕ) → length ys ≤ length (xs ++ ys)
behind-within xs ys = omega (arith, length-append xs ys)

pub front-within : (xs ys : List ℕ) → length xs ≤ length (xs ++ ys)
front-within xs ys = omega (arith, length-append xs ys)

-- no word is longer than the words with a space between them
pub word-within : (front : List (List ℕ)) (word : List ℕ) (more : List (List ℕ)) → length word ≤ length (spaced (front ++ (word ∷ more)))
word-within [] word [] = omega arith
word-within [] word (next ∷ more) = front-within word (32 ∷ spaced (next ∷ more))
word-within (first ∷ []) word more =
    let rest : length word ≤ length (spaced (word ∷ more)) = word-within [] word more in
    omega (arith, behind-within first (32 ∷ spaced (word ∷ more)))
word-within (first ∷ next ∷ front) word more =
    let rest : length word ≤ length (spaced (next ∷ (front ++ (word ∷ more)))) = word-within (next ∷ front) word more in
    omega (arith, behind-within first (32 ∷ spaced (next ∷ (front ++ (word ∷ more)))))

-- nor than the line of them: so a name's length is bounded by the text that holds it
pub name-within : (front : List (List ℕ)) (name : List ℕ) (more : List (List ℕ)) → length name ≤ length (line_of (front ++ (name ∷ more)))
name-within front name more =
    let word : length name ≤ length (spaced (front ++ (name ∷ more))) = word-within front name more in
    omega (arith, front-within (spaced (front ++ (name ∷ more))) (10 ∷ []))

-- the sizes of what the pieces of a text hold are less than a bound of the text
pub names-within : {A : Type 0} (piece : A → List ℕ) (size : A → ℕ) → ((x : A) → size x ≤ length (piece x)) → (xs : List A) (most : ℕ)
    → length (flat_map piece xs) < most → AllByRecursion (λ x. size x < most) xs
names-within piece size within [] most h = tt
names-within piece size within (x ∷ xs) most h =
    let both : length (flat_map piece (x ∷ xs)) ≡ length (piece x) + length (flat_map piece xs) = length-append (piece x) (flat_map piece xs) in
    let here : size x ≤ length (piece x) = within x in
    (omega arith, names-within piece size within xs most (omega arith))
