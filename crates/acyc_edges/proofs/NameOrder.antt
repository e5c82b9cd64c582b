-- No name of an encoding stands twice, so new names get new atoms in order.
use Rattle.std.proofs.Common.{◌≡◌, refl, sym, ◌∙◌, ap, ap₂, subst, ℕ, suc, ◌≤◌, Bool, true, false, cond, not, ◌==◌, List, [], ◌∷◌, ◌++◌, map, filter, length, length-append, ⊎_elim, inl, inr, arith}
use Rattle.std.specs.List.{flat_map}
use Rattle.std.proofs.lemmas.Bool.{true≢false, eq-eqb, cond-true}
use Rattle.std.proofs.lemmas.List.{append-nil}
use Rattle.ground_program.specs.Facts.{IsProgram}
use Rattle.rising_numbers.specs.Rising.{RisesFrom}
use Rattle.ground_program.specs.Fresh.{new_atom, given_by}
use Rattle.ground_program.specs.Ground.{Ground}
use Rattle.acyc_edges.specs.Encoding.{counted, rule_at, is_head, atoms_in, rules_of, head_at, ends_of, both_names, edge_names, plain_names, unique_names}
use Rattle.acyc_edges.specs.declared.name.Name.{Name}
use Rattle.acyc_edges.specs.declared.name.Name.TheVariants.{Atom, Complement, Fires, Chosen, Left, Backed, NoLater, Backs}
use Rattle.acyc_edges.specs.Names.{kind_of, first_of_name, second_of_name, is_new, index_by, same_name, atom_of_name}
use Rattle.ground_program.specs.Normal.{AreNormal}
use Rattle.acyc_edges.proofs.Inside.{in-right, in-append, map-in, flat-in, filter-in}
use Rattle.acyc_edges.proofs.NameLaws.{same_name-is, is-same_name}
use Rattle.acyc_edges.proofs.Reached.{index-head}
use Rattle.acyc_edges.proofs.SizeLaws.{atoms-apart, in-part}
use Rattle.acyc_edges.proofs.Totals.{Apart, rises-apart, filter-apart}
use Rattle.asp_base.specs.Sets.{once, In}

-- ---- lists in which nothing stands twice

append-apart : {A : Type 0} (xs ys : List A) → Apart xs → Apart ys → ((x : A) → In x xs → In x ys → ⊥) → Apart (xs ++ ys)
append-apart [] ys h k d = k
append-apart (x ∷ xs) ys h k d =
    ((λ i. ⊎_elim (λ j. h.0 j) (λ j. d x (inl refl) j) (in-append xs ys x i)), append-apart xs ys h.1 k (λ y i j. d y (inr i) j))

map-apart : {A B : Type 0} (f : A → B) (xs : List A) → ((x y : A) → f x ≡ f y → x ≡ y) → Apart xs → Apart (map f xs)
map-apart f [] h d = tt
map-apart {A} f (x ∷ xs) h d = (
  (λ i. let k : (y : A) × In y xs × (f y ≡ f x) = map-in f xs (f x) i in d.0 (subst (λ z. In z xs) (h k.0 x k.2) k.1)),
  map-apart f xs h d.1,
)

-- lists of elements that tell where they come from
flat-apart : {A B : Type 0} (f : A → List B) (from : B → A) (xs : List A) → Apart xs → ((x : A) → In x xs → Apart (f x)) → ((x : A) (y : B) → In x xs → In y (f x) → from y ≡ x) → Apart (flat_map f xs)
flat-apart f from [] d h k = tt
flat-apart {A} {B} f from (x ∷ xs) d h k =
    append-apart (f x) (flat_map f xs) (h x (inl refl)) (flat-apart f from xs d.1 (λ y i. h y (inr i)) (λ y z i j. k y z (inr i) j))
    (λ z i j. let q : (y : A) × In y xs × In z (f y) = flat-in f xs z j in d.0 (subst (λ w. In w xs) (sym (k q.0 z (inr q.1) q.2) ∙ k x z (inl refl) i) q.1))

once-apart : (xs : List ℕ) → Apart (once xs)
once-apart [] = tt
once-apart (x ∷ xs) = (
  (λ i. let k : In x (once xs) × (not (x == x) ≡ true) = filter-in (λ y. not (x == y)) (once xs) x i in true≢false (sym k.1 ∙ ap not (eq-eqb x x refl))),
  filter-apart (λ y. not (x == y)) (once xs) (once-apart xs),
)

counted-from : {A : Type 0} (n : ℕ) (xs : List A) (i : ℕ) → In i (counted n xs) → n ≤ i
counted-from n [] i h = absurd h
counted-from n (x ∷ xs) i h = ⊎_elim (λ e. omega arith) (λ e. let k : suc n ≤ i = counted-from (suc n) xs i e in omega arith) h

counted-apart : {A : Type 0} (n : ℕ) (xs : List A) → Apart (counted n xs)
counted-apart n [] = tt
counted-apart n (x ∷ xs) = ((λ i. let k : suc n ≤ n = counted-from (suc n) xs n i in omega arith), counted-apart (suc n) xs)

-- ---- the index of an element that stands once

pub index-here : (pre post : List Name) (n : Name) → Apart (pre ++ (n ∷ post)) → index_by same_name (pre ++ (n ∷ post)) n ≡ length pre
index-here [] post n d = cond-true (same_name n n) _ _ (is-same_name n)
index-here (m ∷ pre) post n d = go (same_name n m) refl (index-here pre post n d.1)
  where
    go : (b : Bool) → same_name n m ≡ b → index_by same_name (pre ++ (n ∷ post)) n ≡ length pre → cond b 0 (suc (index_by same_name (pre ++ (n ∷ post)) n)) ≡ suc (length pre)
    go true e k = absurd (d.0 (subst (λ x. In x (pre ++ (n ∷ post))) (same_name-is n m e) (in-right pre (n ∷ post) n (inl refl))))
    go false e k = ap suc k

-- the atoms of a front of the new names are the first new atoms
pub append-more : {A : Type 0} (xs ys zs : List A) → (xs ++ ys) ++ zs ≡ xs ++ (ys ++ zs)
append-more [] ys zs = refl
append-more (x ∷ xs) ys zs = ap (λ ws. x ∷ ws) (append-more xs ys zs)

pub map-append : {A B : Type 0} (f : A → B) (xs ys : List A) → map f (xs ++ ys) ≡ map f xs ++ map f ys
map-append f [] ys = refl
map-append f (x ∷ xs) ys = ap (λ ws. f x ∷ ws) (map-append f xs ys)

module _ (atoms : List ℕ) (names : List Name) where
  abbrev fresh : List Name
  fresh = filter is_new names

  -- drawing goes on behind what was drawn
  draws : (pre post : List Name) → Apart (pre ++ post) → pre ++ post ≡ fresh → ((n : Name) → In n (pre ++ post) → is_new n ≡ true)
      → given_by (length pre) atoms ≡ map (atom_of_name atoms names) pre → given_by (length (pre ++ post)) atoms ≡ map (atom_of_name atoms names) (pre ++ post)
  draws pre [] d e h k = ap (λ xs. given_by (length xs) atoms) (append-nil pre) ∙ (k ∙ ap (map (atom_of_name atoms names)) (sym (append-nil pre)))
  draws pre (n ∷ post) d e h k =
      let same : (pre ++ (n ∷ [])) ++ post ≡ pre ++ (n ∷ post) = append-more pre (n ∷ []) post in
      let long : length (pre ++ (n ∷ [])) ≡ suc (length pre) = length-append pre (n ∷ []) ∙ omega arith in
      let num : atom_of_name atoms names n ≡ new_atom atoms (length pre) =
      cond-true (is_new n) _ _ (h n (in-right pre (n ∷ post) n (inl refl))) ∙ ap (new_atom atoms) (ap (λ xs. index_by same_name xs n) (sym e) ∙ index-here pre post n d) in
      let step : given_by (length (pre ++ (n ∷ []))) atoms ≡ map (atom_of_name atoms names) (pre ++ (n ∷ [])) =
      ap (λ m. given_by m atoms) long ∙ (ap₂ (λ xs a. xs ++ (a ∷ [])) k (sym num) ∙ sym (map-append (atom_of_name atoms names) pre (n ∷ []))) in
      let rest : given_by (length ((pre ++ (n ∷ [])) ++ post)) atoms ≡ map (atom_of_name atoms names) ((pre ++ (n ∷ [])) ++ post) =
      draws (pre ++ (n ∷ [])) post (subst Apart (sym same) d) (same ∙ e) (λ m i. h m (subst (λ xs. In m xs) same i)) step in
      subst (λ xs. given_by (length xs) atoms ≡ map (atom_of_name atoms names) xs) same rest

  pub in-order : Apart names → given_by (length (filter is_new names)) atoms ≡ map (atom_of_name atoms names) (filter is_new names)
  in-order d = draws [] (filter is_new names) (filter-apart is_new names d) refl (λ n i. (filter-in is_new names n i).1) refl

-- ---- the names of the encodings

module _ (P : Ground) (program : IsProgram P) (normal : AreNormal P.rules) (part : ℕ → ℕ) (parts : List ℕ) (rise : RisesFrom 0 parts) where
  -- the atom that a name is of
  abbrev owner : Name → ℕ
  owner (Atom a) = a
  owner (Complement a) = a
  owner (Fires i) = head_at P part parts i
  owner (Chosen a b) = a
  owner (Left a b) = a
  owner (Backed a) = a
  owner (NoLater a c) = a
  owner (Backs i) = head_at P part parts i

  rules-apart : (a : ℕ) → Apart (rules_of P part parts a)
  rules-apart a = filter-apart (λ i. is_head (rule_at P.rules i).head a) (counted 0 P.rules) (counted-apart 0 P.rules)

  fires-kind : (xs : List ℕ) (n : Name) → In n (map Fires xs) → kind_of n ≡ 2
  fires-kind xs n h = let k : (i : ℕ) × In i xs × (Fires i ≡ n) = map-in Fires xs n h in ap kind_of (sym k.2)

  kinds-differ : (m n : Name) (j k : ℕ) → m ≡ n → kind_of m ≡ j → kind_of n ≡ k → j ≡ k
  kinds-differ m n j k e h l = sym h ∙ (ap kind_of e ∙ l)

  both-apart : (a : ℕ) → Apart (both_names P part parts a)
  both-apart a = (
    (λ i. ⊎_elim (λ e. let k : 1 ≡ 0 = ap kind_of e in absurd (omega arith)) (λ e. let k : 0 ≡ 2 = fires-kind (rules_of P part parts a) (Atom a) e in absurd (omega arith)) i),
    (
      (λ i. let k : 1 ≡ 2 = fires-kind (rules_of P part parts a) (Complement a) i in absurd (omega arith)),
      map-apart Fires (rules_of P part parts a) (λ x y e. ap first_of_name e) (rules-apart a),
    ),
  )

  both-is : (a : ℕ) (n : Name) → In n (both_names P part parts a) → (owner n ≡ a) × (kind_of n ≤ 2)
  both-is a n h = ⊎_elim (λ e. (ap owner (sym e), subst (λ m. kind_of m ≤ 2) e (omega arith)))
      (λ k. ⊎_elim (λ e. (ap owner (sym e), subst (λ m. kind_of m ≤ 2) e (omega arith)))
      (λ j. let q : (i : ℕ) × In i (rules_of P part parts a) × (Fires i ≡ n) = map-in Fires (rules_of P part parts a) n j in
      (ap owner (sym q.2) ∙ index-head P program normal part parts q.0 a q.1, subst (λ m. kind_of m ≤ 2) q.2 (omega arith))) k) h

  both-all : (c : ℕ) → Apart (flat_map (both_names P part parts) (atoms_in P part parts c))
  both-all c = flat-apart (both_names P part parts) owner (atoms_in P part parts c) (atoms-apart P program normal part parts rise c) (λ a i. both-apart a) (λ a n i j. (both-is a n j).0)

  -- kind and component of what is in a list
  abbrev Is : ℕ → ℕ → ℕ → Name → Type 0
  Is c low high n = (part (owner n) ≡ c) × (low ≤ kind_of n) × (kind_of n ≤ high)

  both-in : (c : ℕ) (n : Name) → In n (flat_map (both_names P part parts) (atoms_in P part parts c)) → Is c 0 2 n
  both-in c n h =
      let q : (a : ℕ) × In a (atoms_in P part parts c) × In n (both_names P part parts a) = flat-in (both_names P part parts) (atoms_in P part parts c) n h in
      let r : (owner n ≡ q.0) × (kind_of n ≤ 2) = both-is q.0 n q.2 in
      (ap part r.0 ∙ in-part P program normal part parts rise c q.0 q.1, omega arith, r.1)

  -- ---- the first encoding

  edge-is : (a : ℕ) (n : Name) → In n (edge_names P part parts a) → (owner n ≡ a) × (3 ≤ kind_of n) × (kind_of n ≤ 4)
  edge-is a n h =
      let q : (b : ℕ) × In b (ends_of P part parts a) × In n (Chosen a b ∷ Left a b ∷ []) = flat-in (λ b. Chosen a b ∷ Left a b ∷ []) (ends_of P part parts a) n h in
      ⊎_elim (λ e. (ap owner (sym e), subst (λ m. 3 ≤ kind_of m) e (omega arith), subst (λ m. kind_of m ≤ 4) e (omega arith)))
      (λ k. ⊎_elim (λ e. (ap owner (sym e), subst (λ m. 3 ≤ kind_of m) e (omega arith), subst (λ m. kind_of m ≤ 4) e (omega arith))) (λ e. absurd e) k) q.2

  edge-apart : (a : ℕ) → Apart (edge_names P part parts a)
  edge-apart a = flat-apart (λ b. Chosen a b ∷ Left a b ∷ []) second_of_name (ends_of P part parts a) (once-apart _)
      (λ b i. ((λ j. ⊎_elim (λ e. let k : 4 ≡ 3 = ap kind_of e in absurd (omega arith)) (λ e. absurd e) j), ((λ j. absurd j), tt)))
      (λ b n i j. ⊎_elim (λ e. ap second_of_name (sym e)) (λ k. ⊎_elim (λ e. ap second_of_name (sym e)) (λ e. absurd e) k) j)

  edge-in : (c : ℕ) (n : Name) → In n (flat_map (edge_names P part parts) (atoms_in P part parts c)) → Is c 3 4 n
  edge-in c n h =
      let q : (a : ℕ) × In a (atoms_in P part parts c) × In n (edge_names P part parts a) = flat-in (edge_names P part parts) (atoms_in P part parts c) n h in
      let r : (owner n ≡ q.0) × (3 ≤ kind_of n) × (kind_of n ≤ 4) = edge-is q.0 n q.2 in
      (ap part r.0 ∙ in-part P program normal part parts rise c q.0 q.1, r.1, r.2)

  backed-in : (c : ℕ) (n : Name) → In n (map Backed (atoms_in P part parts c)) → Is c 5 5 n
  backed-in c n h =
      let q : (a : ℕ) × In a (atoms_in P part parts c) × (Backed a ≡ n) = map-in Backed (atoms_in P part parts c) n h in
      subst (Is c 5 5) q.2 (in-part P program normal part parts rise c q.0 q.1, omega arith, omega arith)

  plain-part_apart : (c : ℕ) → Apart (plain_names P part parts c)
  plain-part_apart c = append-apart (flat_map (both_names P part parts) (atoms_in P part parts c)) (flat_map (edge_names P part parts) (atoms_in P part parts c) ++ map Backed (atoms_in P part parts c)) (both-all c)
      (append-apart (flat_map (edge_names P part parts) (atoms_in P part parts c)) (map Backed (atoms_in P part parts c))
      (flat-apart (edge_names P part parts) owner (atoms_in P part parts c) (atoms-apart P program normal part parts rise c) (λ a i. edge-apart a) (λ a n i j. (edge-is a n j).0))
      (map-apart Backed (atoms_in P part parts c) (λ x y e. ap first_of_name e) (atoms-apart P program normal part parts rise c))
      (λ n i j. let x : Is c 3 4 n = edge-in c n i in let y : Is c 5 5 n = backed-in c n j in let k : kind_of n ≤ 4 = x.2 in let l : 5 ≤ kind_of n = y.1 in absurd (omega arith)))
      (λ n i j. let x : Is c 0 2 n = both-in c n i in let k : kind_of n ≤ 2 = x.2 in
      ⊎_elim (λ t. let y : Is c 3 4 n = edge-in c n t in let l : 3 ≤ kind_of n = y.1 in absurd (omega arith)) (λ t. let y : Is c 5 5 n = backed-in c n t in let l : 5 ≤ kind_of n = y.1 in absurd (omega arith))
      (in-append (flat_map (edge_names P part parts) (atoms_in P part parts c)) (map Backed (atoms_in P part parts c)) n j))

  plain-of : (c : ℕ) (n : Name) → In n (plain_names P part parts c) → part (owner n) ≡ c
  plain-of c n h = ⊎_elim (λ i. (both-in c n i).0)
      (λ i. ⊎_elim (λ j. (edge-in c n j).0) (λ j. (backed-in c n j).0) (in-append (flat_map (edge_names P part parts) (atoms_in P part parts c)) (map Backed (atoms_in P part parts c)) n i))
      (in-append (flat_map (both_names P part parts) (atoms_in P part parts c)) (flat_map (edge_names P part parts) (atoms_in P part parts c) ++ map Backed (atoms_in P part parts c)) n h)

  pub plain-apart : Apart (flat_map (plain_names P part parts) parts)
  plain-apart = flat-apart (plain_names P part parts) (λ n. part (owner n)) parts (rises-apart 0 parts rise) (λ c i. plain-part_apart c) (λ c n i j. plain-of c n j)

  pub plain-order : given_by (length (filter is_new (flat_map (plain_names P part parts) parts))) P.atoms ≡ map (atom_of_name P.atoms (flat_map (plain_names P part parts) parts)) (filter is_new (flat_map (plain_names P part parts) parts))
  plain-order = in-order P.atoms (flat_map (plain_names P part parts) parts) plain-apart

  -- ---- the second encoding

  abbrev pairs_at : ℕ → List Name
  pairs_at c = flat_map (λ a. map (NoLater a) (atoms_in P part parts c)) (atoms_in P part parts c)

  abbrev backs_at : ℕ → List Name
  backs_at c = flat_map (λ a. map Backs (rules_of P part parts a)) (atoms_in P part parts c)

  pair-is : (c a : ℕ) (n : Name) → In n (map (NoLater a) (atoms_in P part parts c)) → (owner n ≡ a) × (kind_of n ≡ 6)
  pair-is c a n h = let q : (d : ℕ) × In d (atoms_in P part parts c) × (NoLater a d ≡ n) = map-in (NoLater a) (atoms_in P part parts c) n h in (ap owner (sym q.2), ap kind_of (sym q.2))

  back-is : (a : ℕ) (n : Name) → In n (map Backs (rules_of P part parts a)) → (owner n ≡ a) × (kind_of n ≡ 7)
  back-is a n h = let q : (i : ℕ) × In i (rules_of P part parts a) × (Backs i ≡ n) = map-in Backs (rules_of P part parts a) n h in
      (ap owner (sym q.2) ∙ index-head P program normal part parts q.0 a q.1, ap kind_of (sym q.2))

  pairs-in : (c : ℕ) (n : Name) → In n (pairs_at c) → (part (owner n) ≡ c) × (kind_of n ≡ 6)
  pairs-in c n h =
      let q : (a : ℕ) × In a (atoms_in P part parts c) × In n (map (NoLater a) (atoms_in P part parts c)) = flat-in (λ a. map (NoLater a) (atoms_in P part parts c)) (atoms_in P part parts c) n h in
      let r : (owner n ≡ q.0) × (kind_of n ≡ 6) = pair-is c q.0 n q.2 in (ap part r.0 ∙ in-part P program normal part parts rise c q.0 q.1, r.1)

  backs-in : (c : ℕ) (n : Name) → In n (backs_at c) → (part (owner n) ≡ c) × (kind_of n ≡ 7)
  backs-in c n h =
      let q : (a : ℕ) × In a (atoms_in P part parts c) × In n (map Backs (rules_of P part parts a)) = flat-in (λ a. map Backs (rules_of P part parts a)) (atoms_in P part parts c) n h in
      let r : (owner n ≡ q.0) × (kind_of n ≡ 7) = back-is q.0 n q.2 in (ap part r.0 ∙ in-part P program normal part parts rise c q.0 q.1, r.1)

  unique-part_apart : (c : ℕ) → Apart (unique_names P part parts c)
  unique-part_apart c = append-apart (flat_map (both_names P part parts) (atoms_in P part parts c)) (pairs_at c ++ backs_at c) (both-all c)
      (append-apart (pairs_at c) (backs_at c)
      (flat-apart (λ a. map (NoLater a) (atoms_in P part parts c)) owner (atoms_in P part parts c) (atoms-apart P program normal part parts rise c)
      (λ a i. map-apart (NoLater a) (atoms_in P part parts c) (λ x y e. ap second_of_name e) (atoms-apart P program normal part parts rise c)) (λ a n i j. (pair-is c a n j).0))
      (flat-apart (λ a. map Backs (rules_of P part parts a)) owner (atoms_in P part parts c) (atoms-apart P program normal part parts rise c)
      (λ a i. map-apart Backs (rules_of P part parts a) (λ x y e. ap first_of_name e) (rules-apart a)) (λ a n i j. (back-is a n j).0))
      (λ n i j. let k : kind_of n ≡ 6 = (pairs-in c n i).1 in let l : kind_of n ≡ 7 = (backs-in c n j).1 in absurd (omega arith)))
      (λ n i j. let x : Is c 0 2 n = both-in c n i in let k : kind_of n ≤ 2 = x.2 in
      ⊎_elim (λ t. let l : kind_of n ≡ 6 = (pairs-in c n t).1 in absurd (omega arith)) (λ t. let l : kind_of n ≡ 7 = (backs-in c n t).1 in absurd (omega arith)) (in-append (pairs_at c) (backs_at c) n j))

  unique-of : (c : ℕ) (n : Name) → In n (unique_names P part parts c) → part (owner n) ≡ c
  unique-of c n h = ⊎_elim (λ i. (both-in c n i).0)
      (λ i. ⊎_elim (λ j. (pairs-in c n j).0) (λ j. (backs-in c n j).0) (in-append (pairs_at c) (backs_at c) n i))
      (in-append (flat_map (both_names P part parts) (atoms_in P part parts c)) (pairs_at c ++ backs_at c) n h)

  pub unique-apart : Apart (flat_map (unique_names P part parts) parts)
  unique-apart = flat-apart (unique_names P part parts) (λ n. part (owner n)) parts (rises-apart 0 parts rise) (λ c i. unique-part_apart c) (λ c n i j. unique-of c n j)

  pub unique-order : given_by (length (filter is_new (flat_map (unique_names P part parts) parts))) P.atoms ≡ map (atom_of_name P.atoms (flat_map (unique_names P part parts) parts)) (filter is_new (flat_map (unique_names P part parts) parts))
  unique-order = in-order P.atoms (flat_map (unique_names P part parts) parts) unique-apart
