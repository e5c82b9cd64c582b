-- Names by their places.
use Rattle.std.proofs.Common.{◌≡◌, ◌≢◌, refl, sym, ◌∙◌, ap, subst, inl, inr, ⊎_elim, ℕ, suc, ◌+◌, ◌<◌, ◌≤◌, List, [], ◌∷◌, ◌++◌, length, take, drop, map, get_or, Some, arith, take-append-drop}
use Rattle.std.proofs.lemmas.List.{length-take-le, length-map, map-append}
use Rattle.std.proofs.Math.Seq.{take-suc, drop-cons}
use Rattle.std.specs.Borrow.{Bor}
use Rattle.std.specs.List.{AllByRecursion, take-map, drop-map}
use Rattle.asp_base.proofs.Each.{each-back, each-weaker}
use Rattle.job_shell.specs.Reads.{AllDiffer, AtPlace, last_of, names_of}

pub at-place : (place : ℕ) (before : List (List ℕ)) (name : List ℕ) (more : List (List ℕ)) (Fact : List (List ℕ) → List ℕ → Type 0) → Fact before name
    → AtPlace place (before ++ (name ∷ more)) (length before + place) Fact
at-place place [] name more Fact f = let here : length {A = List ℕ} [] + place ≡ place = omega arith in inl (here, f)
at-place place (first ∷ before) name more Fact f =
    let moved : length before + suc place ≡ suc (length before) + place = omega arith in
    inr (subst (λ file. AtPlace (suc place) (before ++ (name ∷ more)) file (λ names. Fact (first ∷ names))) moved (at-place (suc place) before name more (λ names. Fact (first ∷ names)) f))

pub at-then : (place : ℕ) (names : List (List ℕ)) (file : ℕ) (F G : List (List ℕ) → List ℕ → Type 0) → AtPlace place names file F → ((before : List (List ℕ)) (name : List ℕ) → F before name → G before name) → AtPlace place names file G
at-then place [] file F G h f = h
at-then place (name ∷ names) file F G h f =
    ⊎_elim (λ k. inl (k.0, f [] name k.1)) (λ k. inr (at-then (suc place) names file (λ before. F (name ∷ before)) (λ before. G (name ∷ before)) k (λ before. f (name ∷ before)))) h

pub at-any : {X : Type 0} (place : ℕ) (names : List (List ℕ)) (file : ℕ) (F : List (List ℕ) → List ℕ → Type 0) → AtPlace place names file F → ((before : List (List ℕ)) (name : List ℕ) → F before name → X) → X
at-any place [] file F h f = absurd h
at-any place (name ∷ names) file F h f = ⊎_elim (λ k. f [] name k.1) (λ k. at-any (suc place) names file (λ before. F (name ∷ before)) k (λ before. f (name ∷ before))) h

pub last_of-next : (before : List (List ℕ)) (name : List ℕ) → last_of (before ++ (name ∷ [])) ≡ Some name
last_of-next [] name = refl
last_of-next (first ∷ []) name = refl
last_of-next (first ∷ second ∷ before) name = last_of-next (second ∷ before) name

-- ---- a name, and those before and behind it

pub split-names : (names : List (Bor (List ℕ))) (i : ℕ) (d : Bor (List ℕ)) → i < length names
    → names_of names ≡ take i (names_of names) ++ ((get_or names i d).now ∷ drop (suc i) (names_of names))
split-names names i d below =
    let now : Bor (List ℕ) → List ℕ = λ name. name.now in
    let rest : drop i (names_of names) ≡ (get_or names i d).now ∷ drop (suc i) (names_of names) = rw (drop-map now i names, drop-map now (suc i) names, drop-cons names i d below) refl in
    sym (take-append-drop i (names_of names)) ∙ ap (λ more. take i (names_of names) ++ more) rest

pub take-names : (names : List (Bor (List ℕ))) (i : ℕ) (d : Bor (List ℕ)) → i < length names
    → take (i + 1) (names_of names) ≡ take i (names_of names) ++ ((get_or names i d).now ∷ [])
take-names names i d below =
    let now : Bor (List ℕ) → List ℕ = λ name. name.now in
    let next : i + 1 ≡ suc i = omega arith in
    ap (λ n. take n (names_of names)) next ∙ (take-map now (suc i) names ∙ (ap (map now) (take-suc names i d below) ∙ (map-append now (take i names) (get_or names i d ∷ []) ∙ ap (λ front. front ++ ((get_or names i d).now ∷ [])) (sym (take-map now i names)))))

pub length-take_names : (names : List (Bor (List ℕ))) (i : ℕ) → i ≤ length names → length (take i (names_of names)) ≡ i
length-take_names names i within =
    let now : Bor (List ℕ) → List ℕ = λ name. name.now in
    ap length (take-map now i names) ∙ (length-map (take i names) now ∙ length-take-le i names within)

-- a name differs from those before it and from those behind it
pub differ-before : (before : List (List ℕ)) (name : List ℕ) (more : List (List ℕ)) → AllDiffer (before ++ (name ∷ more)) → AllByRecursion (λ other. other ≢ name) before
differ-before [] name more h = tt
differ-before (first ∷ before) name more h = ((each-back (λ other. first ≢ other) before (name ∷ more) h.0).0, differ-before before name more h.1)

pub differ-behind : (before : List (List ℕ)) (name : List ℕ) (more : List (List ℕ)) → AllDiffer (before ++ (name ∷ more)) → AllByRecursion (λ other. other ≢ name) more
differ-behind [] name more h = each-weaker (λ other. name ≢ other) (λ other. other ≢ name) (λ other differ e. differ (sym e)) more h.0
differ-behind (first ∷ before) name more h = differ-behind before name more h.1
