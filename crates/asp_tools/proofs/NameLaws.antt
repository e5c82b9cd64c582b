-- Names that all differ.
use Rattle.std.proofs.Common.{◌≡◌, ◌≢◌, refl, sym, ◌∙◌, ap, ℕ, zero, suc, ◌+◌, ◌<◌, ◌≤◌, Bool, true, false, ◌&&◌, not, List, [], ◌∷◌, ◌++◌, map, take, drop, ◌-◌, get_or, length, arith}
use Rattle.std.specs.Borrow.{Bor}
use Rattle.std.specs.List.{list_all, AllByRecursion}
use Rattle.std.specs.Str.{bytes_eq}
use Rattle.std.proofs.lemmas.List.{length-drop, drop-drop, map-append}
use Rattle.std.proofs.Math.Seq.{drop-cons, take-length}
use Rattle.std.proofs.lemmas.Bool.{true≢false}
use Rattle.asp_base.proofs.NewestFirst.{same_name}
use Rattle.job_shell.specs.Reads.{AllDiffer, names_of}
use Rattle.asp_tools.specs.Job.{all_differ}

pub length_behind : (n : ℕ) (xs : List (List ℕ)) → length (drop n xs) ≡ length xs - n
length_behind n xs = length-drop n xs

take-next : {A : Type 0} (n : ℕ) (xs rest : List A) (x : A) → drop n xs ≡ x ∷ rest → take (suc n) xs ≡ take n xs ++ x ∷ []
take-next zero [] rest x e = absurd (cc)
take-next zero (y ∷ xs) rest x e = ap (λ ys. take 1 ys) e
take-next (suc n) [] rest x e = absurd (cc)
take-next (suc n) (y ∷ xs) rest x e = ap (λ ys. y ∷ ys) (take-next n xs rest x e)

-- the names up to a place are the words behind the first, and so they are with the next one
pub names-grow : (read place : ℕ) (words rest : List (List ℕ)) (names new : List (Bor (List ℕ))) (word : Bor (List ℕ)) → read ≤ place
    → names_of names ≡ take (place - read) (drop read words) → new ≡ names ++ word ∷ [] → drop (place + 1 - 1) words ≡ word.now ∷ rest
    → names_of new ≡ take (place + 1 - read) (drop read words)
names-grow read place words rest names new word h is grown e =
    let far : read + (place - read) ≡ place + 1 - 1 = omega arith in
    let more : suc (place - read) ≡ place + 1 - read = omega arith in
    ap names_of grown
    ∙ (map-append (λ (name : Bor (List ℕ)). name.now) names (word ∷ [])
    ∙ (ap (λ ns. ns ++ word.now ∷ []) is
    ∙ (sym (take-next (place - read) (drop read words) rest word.now (drop-drop (place - read) read words ∙ (ap (λ n. drop n words) far ∙ e)))
    ∙ ap (λ n. take n (drop read words)) more)))

pub all-map : {A B : Type 0} (f : B → Bool) (g : A → B) (xs : List A) → list_all f (map g xs) ≡ list_all (λ x. f (g x)) xs
all-map f g [] = refl
all-map f g (x ∷ xs) = ap (λ b. f (g x) && b) (all-map f g xs)

pub differ-step : (names : List (Bor (List ℕ))) (i : ℕ) (d : Bor (List ℕ)) → i < length names
    → all_differ (names_of (drop i names)) ≡ list_all (λ other. not (bytes_eq (get_or names i d).now other.now)) (take (length names - (i + 1)) (drop (i + 1) names)) && all_differ (names_of (drop (i + 1) names))
differ-step names i d below =
    let next : suc i ≡ i + 1 = omega arith in
    let rest : take (length names - (i + 1)) (drop (i + 1) names) ≡ drop (i + 1) names = ap (λ n. take n (drop (i + 1) names)) (sym (length-drop (i + 1) names)) ∙ take-length (drop (i + 1) names) in
    ap (λ xs. all_differ (names_of xs)) (drop-cons names i d below ∙ ap (λ n. get_or names i d ∷ drop n names) next)
    ∙ ap (λ b. b && all_differ (names_of (drop (i + 1) names))) (all-map (λ other. not (bytes_eq (get_or names i d).now other)) (λ (name : Bor (List ℕ)). name.now) (drop (i + 1) names)
    ∙ ap (list_all (λ other. not (bytes_eq (get_or names i d).now other.now))) (sym rest))

and-both : (a b : Bool) → a && b ≡ true → (a ≡ true) × (b ≡ true)
and-both true b h = (refl, h)
and-both false b h = absurd (true≢false (sym h))

others-differ : (name : List ℕ) (names : List (List ℕ)) → list_all (λ other. not (bytes_eq name other)) names ≡ true → AllByRecursion (λ other. name ≢ other) names
others-differ name [] h = tt
others-differ name (other ∷ names) h =
    let both = and-both (not (bytes_eq name other)) (list_all (λ o. not (bytes_eq name o)) names) h in
    ((λ e. true≢false (sym both.0 ∙ ap not (ap (bytes_eq name) (sym e) ∙ same_name name))), others-differ name names both.1)

pub differ-from : (names : List (List ℕ)) → all_differ names ≡ true → AllDiffer names
differ-from [] h = tt
differ-from (name ∷ names) h =
    let both = and-both (list_all (λ o. not (bytes_eq name o)) names) (all_differ names) h in
    (others-differ name names both.0, differ-from names both.1)
