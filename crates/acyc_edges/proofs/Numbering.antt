-- New names get new atoms one after another.
use Rattle.std.proofs.Common.{◌≡◌, refl, sym, ◌∙◌, ap, ap₂, subst, ℕ, zero, suc, ◌+◌, ◌≤◌, ◌<◌, Bool, true, false, cond, List, [], ◌∷◌, ◌++◌, map, filter, take, drop, length, length-append, slice_index_or, ⊎_elim, inl, arith}
use Rattle.std.specs.List.{list_any, flat_map, AllByRecursion}
use Rattle.std.proofs.lemmas.Bool.{cond-true, cond-false}
use Rattle.std.proofs.lemmas.List.{length-map}
use Rattle.ground_program.specs.Fresh.{Supply, taken, least_free, new_atom, given_by}
use Rattle.ground_program.specs.declared.program.Rule.{Rule}
use Rattle.acyc_edges.specs.Encoding.{rule_at}
use Rattle.acyc_edges.specs.declared.name.Name.{Name}
use Rattle.acyc_edges.specs.Names.{is_new, index_by, same_name, atom_of_name}
use Rattle.acyc_edges.specs.private.Numbers.{is_numbered, number_in, number_of, numbered, IsOnce}
use Rattle.acyc_edges.proofs.Inside.{in-right, in-any, in-filter, any-in, filter-in, map-in, in-none, false-from, not-both}
use Rattle.acyc_edges.proofs.NameLaws.{same_name-is, is-same_name}
use Rattle.acyc_edges.proofs.NameOrder.{index-here, append-more, map-append}
use Rattle.acyc_edges.proofs.Totals.{Apart, filter-apart}
use Rattle.asp_base.specs.Sets.{In}

pub once-apart_names : (names : List Name) → IsOnce names → Apart names
once-apart_names [] h = tt
once-apart_names (n ∷ names) h = ((λ i. not-both (list_any (λ m. same_name m n) names) (in-any (λ m. same_name m n) names n i (is-same_name n)) h.0), once-apart_names names h.1)

pub apart-once_names : (names : List Name) → Apart names → IsOnce names
apart-once_names [] h = tt
apart-once_names (n ∷ names) h = (in-none (λ m. same_name m n) names (λ m i. false-from (same_name m n) (λ e. h.0 (subst (λ x. In x names) (same_name-is m n e) i))), apart-once_names names h.1)

pub filter-append : {A : Type 0} (p : A → Bool) (xs ys : List A) → filter p (xs ++ ys) ≡ filter p xs ++ filter p ys
filter-append p [] ys = refl
filter-append p (x ∷ xs) ys = go (p x) (filter-append p xs ys)
  where
    go : (b : Bool) → filter p (xs ++ ys) ≡ filter p xs ++ filter p ys → cond b (x ∷ filter p (xs ++ ys)) (filter p (xs ++ ys)) ≡ cond b (x ∷ filter p xs) (filter p xs) ++ filter p ys
    go true e = ap (λ zs. x ∷ zs) e
    go false e = e

-- a list around one of its places
pub take-drop : {A : Type 0} (xs : List A) (i : ℕ) (d : A) → i < length xs → xs ≡ take i xs ++ (slice_index_or xs i d ∷ drop (suc i) xs)
take-drop [] i d h = absurd (omega arith)
take-drop (x ∷ xs) zero d h = refl
take-drop (x ∷ xs) (suc i) d h = ap (λ ys. x ∷ ys) (take-drop xs i d (omega arith))

pub take-more : {A : Type 0} (xs : List A) (i : ℕ) (d : A) → i < length xs → take (suc i) xs ≡ take i xs ++ (slice_index_or xs i d ∷ [])
take-more [] i d h = absurd (omega arith)
take-more (x ∷ xs) zero d h = refl
take-more (x ∷ xs) (suc i) d h = ap (λ ys. x ∷ ys) (take-more xs i d (omega arith))

length-take_le : {A : Type 0} (i : ℕ) (xs : List A) → length (take i xs) ≤ length xs
length-take_le zero xs = omega arith
length-take_le (suc i) [] = omega arith
length-take_le (suc i) (x ∷ xs) = let h : length (take i xs) ≤ length xs = length-take_le i xs in omega arith

filter-take : (p : Name → Bool) (i : ℕ) (xs : List Name) → length (filter p (take i xs)) ≤ length (filter p xs)
filter-take p zero xs = omega arith
filter-take p (suc i) [] = omega arith
filter-take p (suc i) (x ∷ xs) = go (p x) (filter-take p i xs)
  where
    go : (b : Bool) → length (filter p (take i xs)) ≤ length (filter p xs) → length (cond b (x ∷ filter p (take i xs)) (filter p (take i xs))) ≤ length (cond b (x ∷ filter p xs) (filter p xs))
    go true h = omega arith
    go false h = h

pub few-given : (f : Name → ℕ) (names : List Name) (i : ℕ) → length (map f (filter is_new (take i names))) ≤ length (filter is_new names)
few-given f names i =
    let a : length (map f (filter is_new (take i names))) ≡ length (filter is_new (take i names)) = length-map (filter is_new (take i names)) f in
    let b : length (filter is_new (take i names)) ≤ length (filter is_new names) = filter-take is_new i names in omega arith

pub not-numbered : (f : Name → ℕ) (names : List Name) (i : ℕ) (d : Name) → i < length names → IsOnce names
    → is_numbered (map (λ n. (n, f n)) (filter is_new (take i names))) (slice_index_or names i d) ≡ false
not-numbered f names i d l h =
    let x : Name = slice_index_or names i d in
    let a : Apart (take i names ++ (slice_index_or names i d ∷ drop (suc i) names)) = subst Apart (take-drop names i d l) (once-apart_names names h) in
    in-none (λ pair. same_name (slice_index_or names i d) pair.0) (map (λ n. (n, f n)) (filter is_new (take i names)))
    (λ pair j. false-from _ (λ e.
    let q : (n : Name) × In n (filter is_new (take i names)) × ((n, f n) ≡ pair) = map-in (λ n. (n, f n)) (filter is_new (take i names)) pair j in
    let s : slice_index_or names i d ≡ q.0 = same_name-is (slice_index_or names i d) pair.0 e ∙ ap (λ r. r.0) (sym q.2) in
    front-apart (take i names) (slice_index_or names i d) (drop (suc i) names) a (subst (λ n. In n (take i names)) (sym s) ((filter-in is_new (take i names) q.0 q.1).0))))
  where
    front-apart : (pre : List Name) (x : Name) (post : List Name) → Apart (pre ++ (x ∷ post)) → In x pre → ⊥
    front-apart [] x post a j = j
    front-apart (p ∷ pre) x post a j = ⊎_elim (λ e. a.0 (subst (λ n. In n (pre ++ (x ∷ post))) (sym e) (in-right pre (x ∷ post) x (inl refl)))) (λ k. front-apart pre x post a.1 k) j

module _ (atoms : List ℕ) (names : List Name) where
  draws-part : (pre post rest : List Name) → Apart (pre ++ (post ++ rest)) → pre ++ (post ++ rest) ≡ filter is_new names → ((n : Name) → In n (pre ++ (post ++ rest)) → is_new n ≡ true)
      → given_by (length pre) atoms ≡ map (atom_of_name atoms names) pre → given_by (length (pre ++ post)) atoms ≡ map (atom_of_name atoms names) (pre ++ post)
  draws-part pre [] rest d e h k = ap (λ xs. given_by (length xs) atoms) (nil pre) ∙ (k ∙ ap (map (atom_of_name atoms names)) (sym (nil pre)))
    where
      nil : (xs : List Name) → xs ++ [] ≡ xs
      nil [] = refl
      nil (x ∷ xs) = ap (λ ys. x ∷ ys) (nil xs)
  draws-part pre (n ∷ post) rest d e h k =
      let same : (pre ++ (n ∷ [])) ++ (post ++ rest) ≡ pre ++ (n ∷ (post ++ rest)) = append-more pre (n ∷ []) (post ++ rest) in
      let long : length (pre ++ (n ∷ [])) ≡ suc (length pre) = length-append pre (n ∷ []) ∙ omega arith in
      let num : atom_of_name atoms names n ≡ new_atom atoms (length pre) =
      cond-true (is_new n) _ _ (h n (in-right pre (n ∷ (post ++ rest)) n (inl refl))) ∙ ap (new_atom atoms) (ap (λ xs. index_by same_name xs n) (sym e) ∙ index-here pre (post ++ rest) n d) in
      let step : given_by (length (pre ++ (n ∷ []))) atoms ≡ map (atom_of_name atoms names) (pre ++ (n ∷ [])) =
      ap (λ m. given_by m atoms) long ∙ (ap₂ (λ xs a. xs ++ (a ∷ [])) k (sym num) ∙ sym (map-append (atom_of_name atoms names) pre (n ∷ []))) in
      let rest_is : given_by (length ((pre ++ (n ∷ [])) ++ post)) atoms ≡ map (atom_of_name atoms names) ((pre ++ (n ∷ [])) ++ post) =
      draws-part (pre ++ (n ∷ [])) post rest (subst Apart (sym same) d) (same ∙ e) (λ m i. h m (subst (λ xs. In m xs) same i)) step in
      subst (λ xs. given_by (length xs) atoms ≡ map (atom_of_name atoms names) xs) (append-more pre (n ∷ []) post) rest_is

  -- the next new name has the next new atom
  pub drawn-next : (i : ℕ) (d : Name) → i < length names → IsOnce names → is_new (slice_index_or names i d) ≡ true
      → atom_of_name atoms names (slice_index_or names i d) ≡ least_free (map (atom_of_name atoms names) (filter is_new (take i names)) ++ atoms)
  drawn-next i d l o h =
      let x : Name = slice_index_or names i d in
      let F : List Name = filter is_new (take i names) in
      let B : List Name = filter is_new (drop (suc i) names) in
      let e : filter is_new (take i names) ++ (slice_index_or names i d ∷ filter is_new (drop (suc i) names)) ≡ filter is_new names =
      sym (ap (filter is_new) (take-drop names i d l) ∙ (filter-append is_new (take i names) (slice_index_or names i d ∷ drop (suc i) names)
      ∙ ap (λ ys. filter is_new (take i names) ++ ys) (cond-true (is_new (slice_index_or names i d)) _ _ h))) in
      let a : Apart (filter is_new names) = filter-apart is_new names (once-apart_names names o) in
      let b : Apart (filter is_new (take i names) ++ (slice_index_or names i d ∷ filter is_new (drop (suc i) names))) = subst Apart (sym e) a in
      let news : (n : Name) → In n (filter is_new (take i names) ++ (slice_index_or names i d ∷ filter is_new (drop (suc i) names))) → is_new n ≡ true =
      λ n j. (filter-in is_new names n (subst (λ xs. In n xs) e j)).1 in
      let g : given_by (length (filter is_new (take i names))) atoms ≡ map (atom_of_name atoms names) (filter is_new (take i names)) =
      draws-part [] (filter is_new (take i names)) (slice_index_or names i d ∷ filter is_new (drop (suc i) names)) b e news refl in
      cond-true (is_new (slice_index_or names i d)) _ _ h
      ∙ (ap (new_atom atoms) (ap (λ xs. index_by same_name xs (slice_index_or names i d)) (sym e) ∙ index-here (filter is_new (take i names)) (filter is_new (drop (suc i) names)) (slice_index_or names i d) b)
      ∙ ap (λ ys. least_free (ys ++ atoms)) g)

-- one name more
pub filter-more : {B : Type 0} (f : Name → B) (names : List Name) (i : ℕ) (d : Name) → i < length names
    → map f (filter is_new (take (suc i) names)) ≡ map f (filter is_new (take i names)) ++ map f (cond (is_new (slice_index_or names i d)) (slice_index_or names i d ∷ []) [])
filter-more f names i d l =
    ap (λ xs. map f (filter is_new xs)) (take-more names i d l)
    ∙ (ap (map f) (filter-append is_new (take i names) (slice_index_or names i d ∷ [])) ∙ map-append f (filter is_new (take i names)) (filter is_new (slice_index_or names i d ∷ [])))

-- ---- one round of numbering

module _ (atoms : List ℕ) (names : List Name) (i : ℕ) (d : Name) (below : i < length names) where
  abbrev num : Name → ℕ
  num = atom_of_name atoms names

  abbrev pairs : ℕ → List (Name × ℕ)
  pairs k = map (λ n. (n, atom_of_name atoms names n)) (filter is_new (take k names))

  abbrev given : ℕ → List ℕ
  given k = map (atom_of_name atoms names) (filter is_new (take k names))

  one_up : {B : Type 0} (f : Name → B) → map f (filter is_new (take (i + 1) names)) ≡ map f (filter is_new (take (suc i) names))
  one_up f = ap (λ k. map f (filter is_new (take k names))) (let e : i + 1 ≡ suc i = omega arith in e)

  with_atom : Supply → ℕ → Supply
  with_atom s a = record s { given = s.given ++ (a ∷ []) }

  pub round-new : (once : IsOnce names) → is_new (slice_index_or names i d) ≡ true → (numbers after : List (Name × ℕ)) (s t : Supply) (a : ℕ)
      → numbers ≡ pairs i → s ≡ record { atoms = atoms; given = given i } → a ≡ least_free (taken s) → after ≡ numbers ++ ((slice_index_or names i d, a) ∷ []) → t ≡ record s { given = s.given ++ (a ∷ []) }
      → (after ≡ pairs (i + 1)) × (t ≡ record { atoms = atoms; given = given (i + 1) })
  unfolding with_atom
  round-new once new numbers after s t a p q r u v =
      let x : Name = slice_index_or names i d in
      let e : a ≡ atom_of_name atoms names (slice_index_or names i d) = r ∙ (ap (λ y. least_free (taken y)) q ∙ sym (drawn-next atoms names i d below once new)) in (
        u ∙ (ap₂ (λ ps b. ps ++ ((slice_index_or names i d, b) ∷ [])) p e ∙ sym (one_up (λ n. (n, atom_of_name atoms names n)) ∙ (filter-more (λ n. (n, atom_of_name atoms names n)) names i d below
            ∙ ap (λ ys. pairs i ++ map (λ n. (n, atom_of_name atoms names n)) ys) (cond-true (is_new (slice_index_or names i d)) _ _ new)))),
        v ∙ (ap₂ with_atom q e ∙ ap (λ g. record { atoms = atoms; given = g }) (sym (one_up (atom_of_name atoms names) ∙ (filter-more (atom_of_name atoms names) names i d below
            ∙ ap (λ ys. given i ++ map (atom_of_name atoms names) ys) (cond-true (is_new (slice_index_or names i d)) _ _ new))))),
      )

  nil : {B : Type 0} (xs : List B) → xs ++ [] ≡ xs
  nil [] = refl
  nil (x ∷ xs) = ap (λ ys. x ∷ ys) (nil xs)

  pub round-old : is_new (slice_index_or names i d) ≡ false → (numbers after : List (Name × ℕ)) (s t : Supply)
      → numbers ≡ pairs i → s ≡ record { atoms = atoms; given = given i } → after ≡ numbers → t ≡ s
      → (after ≡ pairs (i + 1)) × (t ≡ record { atoms = atoms; given = given (i + 1) })
  round-old old numbers after s t p q u v = (
    u ∙ (p ∙ sym (one_up (λ n. (n, atom_of_name atoms names n)) ∙ (filter-more (λ n. (n, atom_of_name atoms names n)) names i d below
        ∙ (ap (λ ys. pairs i ++ map (λ n. (n, atom_of_name atoms names n)) ys) (cond-false (is_new (slice_index_or names i d)) _ _ old) ∙ nil (pairs i))))),
    v ∙ (q ∙ ap (λ g. record { atoms = atoms; given = g }) (sym (one_up (atom_of_name atoms names) ∙ (filter-more (atom_of_name atoms names) names i d below
        ∙ (ap (λ ys. given i ++ map (atom_of_name atoms names) ys) (cond-false (is_new (slice_index_or names i d)) _ _ old) ∙ nil (given i)))))),
  )

-- ---- the atoms that are looked up

find-number : (f : Name → ℕ) (names : List Name) (n : Name) → In n names → number_in (map (λ m. (m, f m)) names) n ≡ f n
find-number f [] n i = absurd i
find-number f (m ∷ names) n i = go (same_name n m) refl (λ k. find-number f names n k)
  where
    go : (b : Bool) → same_name n m ≡ b → (In n names → number_in (map (λ k. (k, f k)) names) n ≡ f n) → cond b (f m) (number_in (map (λ k. (k, f k)) names) n) ≡ f n
    go true e rest = ap f (sym (same_name-is n m e))
    go false e rest = ⊎_elim (λ k. absurd (not-both (same_name n m) (subst (λ x. same_name n x ≡ true) (sym k) (is-same_name n)) e)) rest i

pub number-is : (atoms : List ℕ) (names : List Name) (n : Name) → list_any (λ m. same_name m n) names ≡ true → number_of (numbered atoms names) n ≡ atom_of_name atoms names n
number-is atoms names n h = go (is_new n) refl
  where
    there : In n names
    there = let k : (m : Name) × In m names × (same_name m n ≡ true) = any-in (λ m. same_name m n) names h in subst (λ x. In x names) (same_name-is k.0 n k.2) k.1

    go : (b : Bool) → is_new n ≡ b → number_of (numbered atoms names) n ≡ atom_of_name atoms names n
    go true e = cond-true (is_new n) _ _ e ∙ find-number (atom_of_name atoms names) (filter is_new names) n (in-filter is_new names n there e)
    go false e = cond-false (is_new n) _ _ e ∙ sym (cond-false (is_new n) _ _ e)

-- ---- places of lists

pub each-at : {A : Type 0} (P : A → Type 0) (xs : List A) (i : ℕ) (d : A) → AllByRecursion P xs → i < length xs → P (slice_index_or xs i d)
each-at P [] i d h l = absurd (omega arith)
each-at P (x ∷ xs) zero d h l = h.0
each-at P (x ∷ xs) (suc i) d h l = each-at P xs i d h.1 (omega arith)

pub rule-there : (rules : List Rule) (i : ℕ) (d : Rule) → i < length rules → slice_index_or rules i d ≡ rule_at rules i
rule-there [] i d l = absurd (omega arith)
rule-there (r ∷ rules) zero d l = refl
rule-there (r ∷ rules) (suc i) d l = rule-there rules i d (omega arith)

pub flat-append : {A B : Type 0} (f : A → List B) (xs ys : List A) → flat_map f (xs ++ ys) ≡ flat_map f xs ++ flat_map f ys
flat-append f [] ys = refl
flat-append f (x ∷ xs) ys = ap (λ zs. f x ++ zs) (flat-append f xs ys) ∙ sym (append-more (f x) (flat_map f xs) (flat_map f ys))

-- one element more
pub flat-next : {A B : Type 0} (f : A → List B) (front : List B) (xs : List A) (i : ℕ) (d : A) → i < length xs → (front ++ flat_map f (take i xs)) ++ f (slice_index_or xs i d) ≡ front ++ flat_map f (take (i + 1) xs)
flat-next {A} {B} f front xs i d l =
    append-more front (flat_map f (take i xs)) (f (slice_index_or xs i d))
    ∙ ap (λ zs. front ++ zs) (sym (ap (λ k. flat_map f (take k xs)) (let e : i + 1 ≡ suc i = omega arith in e)
    ∙ (ap (flat_map f) (take-more xs i d l) ∙ (flat-append f (take i xs) (slice_index_or xs i d ∷ []) ∙ ap (λ zs. flat_map f (take i xs) ++ zs) (nil (f (slice_index_or xs i d)))))))
  where
    nil : (zs : List B) → zs ++ [] ≡ zs
    nil [] = refl
    nil (z ∷ zs) = ap (λ ws. z ∷ ws) (nil zs)
