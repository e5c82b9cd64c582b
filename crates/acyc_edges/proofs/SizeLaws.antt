-- The sizes of the encodings.
use Rattle.std.proofs.Common.{◌≡◌, refl, sym, ◌∙◌, ap, ap₂, subst, ℕ, zero, suc, ◌+◌, ◌*◌, ◌≤◌, nat_lt, Bool, true, false, cond, not, ◌==◌, List, [], ◌∷◌, ◌++◌, map, filter, length, length-append, mul-suc, arith}
use Rattle.std.specs.List.{sum_by, flat_map}
use Rattle.std.proofs.lemmas.Bool.{true≢false, eqb-true, eq-eqb}
use Rattle.std.proofs.lemmas.List.{length-map}
use Rattle.asp_base.specs.Literal.{Literal, Pos, Neg}
use Rattle.asp_base.specs.Sets.{members, once, In}
use Rattle.ground_program.specs.Facts.{IsProgram}
use Rattle.rising_numbers.specs.Rising.{RisesFrom}
use Rattle.ground_program.specs.Ground.{Ground}
use Rattle.rising_numbers.specs.Rising.{into_rising, rising}
use Rattle.ground_program.specs.Size.{entries, rule_size, size}
use Rattle.ground_program.specs.declared.program.Body.{Body}
use Rattle.ground_program.specs.declared.program.Body.TheVariants.{All, Sum}
use Rattle.ground_program.specs.declared.program.Head.{Head}
use Rattle.ground_program.specs.declared.program.Head.TheVariants.{Nothing, One, Choice}
use Rattle.ground_program.specs.declared.program.Edge.{Edge}
use Rattle.ground_program.specs.declared.program.Rule.{Rule}
use Rattle.ground_program.specs.Dependencies.{positives_of_literals, positives_of_body}
use Rattle.tangle_laws.proofs.PartSums.{total, total-append, total-le, total-both}
use Rattle.acyc_edges.specs.Encoding.{counted, rule_at, is_head, has_head_in, is_cyclic, atoms_in, rules_of, head_at, inner_at, ends_of, both_names, edge_names, plain_names, unique_names, rules_of_name, edges_of, kept_rules, kept_edges, made, plain, unique}
use Rattle.acyc_edges.specs.declared.name.Name.{Name}
use Rattle.acyc_edges.specs.declared.name.Name.TheVariants.{Atom, Complement, Fires, Chosen, Left, Backed, NoLater, Backs}
use Rattle.acyc_edges.specs.Names.{is_new, atom_of_name}
use Rattle.ground_program.specs.Normal.{IsNormalBody, AreNormal, literals_of}
use Rattle.acyc_edges.specs.private.Pairs.{rules_in, occurrences_in, pairs_in, pairs}
use Rattle.acyc_edges.proofs.Inside.{filter-in, in-member}
use Rattle.acyc_edges.proofs.Reached.{index-normal, index-head}
use Rattle.acyc_edges.proofs.Sources.{counted-suc, is_head-atom}
use Rattle.acyc_edges.proofs.Totals.{total-sum_by, total-flat, total-map, total-same, total-one, total-split, length-part, Apart, rises-apart, filter-apart, total-keys, filter-filter}

-- ---- lengths

length-into : (a : ℕ) (xs : List ℕ) → length (into_rising a xs) ≤ suc (length xs)
length-into a [] = omega arith
length-into a (x ∷ xs) = go (nat_lt a x) (a == x) (length-into a xs)
  where
    go : (l e : Bool) → length (into_rising a xs) ≤ suc (length xs) → length (cond l (a ∷ x ∷ xs) (cond e (x ∷ xs) (x ∷ into_rising a xs))) ≤ suc (suc (length xs))
    go true e h = omega arith
    go false true h = omega arith
    go false false h = omega arith

length-rising : (xs : List ℕ) → length (rising xs) ≤ length xs
length-rising [] = omega arith
length-rising (x ∷ xs) =
    let h : length (rising xs) ≤ length xs = length-rising xs in
    let k : length (into_rising x (rising xs)) ≤ suc (length (rising xs)) = length-into x (rising xs) in omega arith

length-once : (xs : List ℕ) → length (once xs) ≤ length xs
length-once [] = omega arith
length-once (x ∷ xs) =
    let h : length (once xs) ≤ length xs = length-once xs in
    let k : length (filter (λ y. not (x == y)) (once xs)) ≤ length (once xs) = length-part (λ y. not (x == y)) (once xs) in omega arith

pub length-positives : (lits : List Literal) → length (positives_of_literals lits) ≤ length lits
length-positives [] = omega arith
length-positives (Pos a ∷ lits) = let h : length (positives_of_literals lits) ≤ length lits = length-positives lits in omega arith
length-positives (Neg a ∷ lits) = let h : length (positives_of_literals lits) ≤ length lits = length-positives lits in omega arith

times : {A : Type 0} (k : ℕ) (xs : List A) → total (λ x. k) xs ≡ k * length xs
times k [] = grind arith
times k (x ∷ xs) = let h : total (λ y. k) xs ≡ k * length xs = times k xs in omega (arith, mul-suc k (length xs))

pub mul-mono : (s m n : ℕ) → m ≤ n → s * m ≤ s * n
mul-mono s m n h = grind (arith)

times_turned : {A : Type 0} (k : ℕ) (xs : List A) → total (λ x. k) xs ≡ length xs * k
times_turned k [] = grind arith
times_turned k (x ∷ xs) = let h : total (λ y. k) xs ≡ length xs * k = times_turned k xs in grind (arith, h)

times-two : (s m : ℕ) → s * (2 * m) ≡ 2 * (s * m)
times-two s m = grind arith

le-square : (s m : ℕ) → s ≤ s * (s + m)
le-square zero m = omega arith
le-square (suc n) m = let h : suc n * 1 ≤ suc n * (suc n + m) = mul-mono (suc n) 1 (suc n + m) (omega arith) in grind (arith, h)

once-twice : (a : ℕ) (xs : List ℕ) → Apart xs → total (λ c. cond (a == c) 3 0) xs ≤ 3
once-twice a xs d =
    let s : total (λ c. total (λ x. 3) (filter (λ x. x == c) (a ∷ []))) xs ≤ 3 = total-keys (λ x. 3) (λ c x. x == c) xs (a ∷ []) d (λ x i b c h k. sym (eqb-true x b h) ∙ eqb-true x c k) in
    let e : total (λ c. total (λ x. 3) (filter (λ x. x == c) (a ∷ []))) xs ≡ total (λ c. cond (a == c) 3 0) xs = total-same (λ c. total (λ x. 3) (filter (λ x. x == c) (a ∷ []))) (λ c. cond (a == c) 3 0) xs (λ c i. go (a == c)) in
    omega arith
  where
    go : (b : Bool) → total (λ x. 3) (cond b (a ∷ []) []) ≡ cond b 3 0
    go true = refl
    go false = refl

pub total-times : {A : Type 0} (k : ℕ) (f : A → ℕ) (xs : List A) → total (λ x. k * f x) xs ≡ k * total f xs
total-times k f [] = grind arith
total-times k f (x ∷ xs) = let h : total (λ y. k * f y) xs ≡ k * total f xs = total-times k f xs in grind (arith, h)

-- ---- indices and rules

total-shift : (f : ℕ → ℕ) (t : ℕ → Bool) (ys : List ℕ) → total f (filter t (map suc ys)) ≡ total (λ i. f (suc i)) (filter (λ i. t (suc i)) ys)
total-shift f t [] = refl
total-shift f t (y ∷ ys) = go (t (suc y)) (total-shift f t ys)
  where
    go : (b : Bool) → total f (filter t (map suc ys)) ≡ total (λ i. f (suc i)) (filter (λ i. t (suc i)) ys)
        → total f (cond b (suc y ∷ filter t (map suc ys)) (filter t (map suc ys))) ≡ total (λ i. f (suc i)) (cond b (y ∷ filter (λ i. t (suc i)) ys) (filter (λ i. t (suc i)) ys))
    go true h = ap (λ n. f (suc y) + n) h
    go false h = h

total-counted : (f : Rule → ℕ) (t : Rule → Bool) (rules : List Rule) → total (λ i. f (rule_at rules i)) (filter (λ i. t (rule_at rules i)) (counted 0 rules)) ≡ total f (filter t rules)
total-counted f t [] = refl
total-counted f t (r ∷ rules) = go (t r) (ap (λ ys. total (λ i. f (rule_at (r ∷ rules) i)) (filter (λ i. t (rule_at (r ∷ rules) i)) ys)) (counted-suc 0 rules)
    ∙ (total-shift (λ i. f (rule_at (r ∷ rules) i)) (λ i. t (rule_at (r ∷ rules) i)) (counted 0 rules) ∙ total-counted f t rules))
  where
    go : (b : Bool) → total (λ i. f (rule_at (r ∷ rules) i)) (filter (λ i. t (rule_at (r ∷ rules) i)) (counted 1 rules)) ≡ total f (filter t rules)
        → total (λ i. f (rule_at (r ∷ rules) i)) (cond b (0 ∷ filter (λ i. t (rule_at (r ∷ rules) i)) (counted 1 rules)) (filter (λ i. t (rule_at (r ∷ rules) i)) (counted 1 rules))) ≡ total f (cond b (r ∷ filter t rules) (filter t rules))
    go true h = ap (λ n. f r + n) h
    go false h = h

abbrev pub edge_size : Edge → ℕ
edge_size edge = 1 + length edge.condition

has-one : (S : ℕ → Bool) (head : Head) (a : ℕ) → is_head head a ≡ true → has_head_in S head ≡ S a
has-one S Nothing a h = absurd (true≢false (sym h))
has-one S (One b) a h = ap S (eqb-true b a h)
has-one S (Choice as_) a h = absurd (true≢false (sym h))

-- a head in two components
has-two : (part : ℕ → ℕ) (head : Head) (c d : ℕ) → has_head_in (λ a. part a == c) head ≡ true → has_head_in (λ a. part a == d) head ≡ true → c ≡ d
has-two part Nothing c d h k = absurd (true≢false (sym h))
has-two part (One b) c d h k = sym (eqb-true (part b) c h) ∙ eqb-true (part b) d k
has-two part (Choice as_) c d h k = absurd (true≢false (sym h))

has-cyclic : (part : ℕ → ℕ) (parts : List ℕ) (head : Head) (c : ℕ) → members parts c ≡ true → has_head_in (λ a. part a == c) head ≡ true → has_head_in (λ a. members parts (part a)) head ≡ true
has-cyclic part parts Nothing c m h = absurd (true≢false (sym h))
has-cyclic part parts (One b) c m h = subst (λ d. members parts d ≡ true) (sym (eqb-true (part b) c h)) m
has-cyclic part parts (Choice as_) c m h = absurd (true≢false (sym h))

pub body-entries : (body : Body) → length (literals_of body) ≤ entries body
body-entries (All lits) = omega arith
body-entries (Sum bound items) = omega arith

module _ (P : Ground) (program : IsProgram P) (normal : AreNormal P.rules) (part : ℕ → ℕ) (parts : List ℕ) (rise : RisesFrom 0 parts) where
  -- the literals of a rule's body
  abbrev e : ℕ → ℕ
  e i = length (literals_of (rule_at P.rules i).body)

  abbrev p : ℕ → ℕ
  p i = length (inner_at P part parts i)

  -- the indices of the rules with a head in the component
  abbrev heads_in : ℕ → List ℕ
  heads_in c = filter (λ i. has_head_in (λ a. part a == c) (rule_at P.rules i).head) (counted 0 P.rules)

  -- a component's atoms differ
  pub atoms-apart : (c : ℕ) → Apart (atoms_in P part parts c)
  atoms-apart c = filter-apart (λ a. part a == c) P.atoms (rises-apart 0 P.atoms program.atoms_rise)

  pub in-part : (c a : ℕ) → In a (atoms_in P part parts c) → part a ≡ c
  in-part c a i = eqb-true (part a) c ((filter-in (λ x. part x == c) P.atoms a i).1)

  -- sums over the rules of a component's atoms are sums over the component's rules
  total-rules : (g : ℕ → ℕ) (c : ℕ) → total (λ a. total g (rules_of P part parts a)) (atoms_in P part parts c) ≤ total g (heads_in c)
  total-rules g c =
      let s : total (λ a. total g (filter (λ i. is_head (rule_at P.rules i).head a) (heads_in c))) (atoms_in P part parts c) ≤ total g (heads_in c) =
      total-keys g (λ a i. is_head (rule_at P.rules i).head a) (atoms_in P part parts c) (heads_in c) (atoms-apart c)
      (λ i j a b h k. sym (is_head-atom (rule_at P.rules i).head a h) ∙ is_head-atom (rule_at P.rules i).head b k) in
      let same : total (λ a. total g (filter (λ i. is_head (rule_at P.rules i).head a) (heads_in c))) (atoms_in P part parts c) ≡ total (λ a. total g (rules_of P part parts a)) (atoms_in P part parts c) =
      total-same (λ a. total g (filter (λ i. is_head (rule_at P.rules i).head a) (heads_in c))) (λ a. total g (rules_of P part parts a)) (atoms_in P part parts c)
      (λ a j. ap (total g) (filter-filter (λ i. has_head_in (λ x. part x == c) (rule_at P.rules i).head) (λ i. is_head (rule_at P.rules i).head a) (counted 0 P.rules)
      (λ i k h. has-one (λ x. part x == c) (rule_at P.rules i).head a h ∙ eq-eqb (part a) c (in-part c a j)))) in
      omega arith

  -- sums over the components are sums over the rules with a head in one of them
  total-parts : (g : ℕ → ℕ) → total (λ c. total g (heads_in c)) parts ≤ total g (filter (λ i. has_head_in (is_cyclic P part parts) (rule_at P.rules i).head) (counted 0 P.rules))
  total-parts g =
      let xs : List ℕ = filter (λ i. has_head_in (is_cyclic P part parts) (rule_at P.rules i).head) (counted 0 P.rules) in
      let s : total (λ c. total g (filter (λ i. has_head_in (λ a. part a == c) (rule_at P.rules i).head) xs)) parts ≤ total g xs =
      total-keys g (λ c i. has_head_in (λ a. part a == c) (rule_at P.rules i).head) parts xs (rises-apart 0 parts rise)
      (λ i j c d h k. has-two part (rule_at P.rules i).head c d h k) in
      let same : total (λ c. total g (filter (λ i. has_head_in (λ a. part a == c) (rule_at P.rules i).head) xs)) parts ≡ total (λ c. total g (heads_in c)) parts =
      total-same (λ c. total g (filter (λ i. has_head_in (λ a. part a == c) (rule_at P.rules i).head) xs)) (λ c. total g (heads_in c)) parts
      (λ c j. ap (total g) (filter-filter (λ i. has_head_in (is_cyclic P part parts) (rule_at P.rules i).head) (λ i. has_head_in (λ a. part a == c) (rule_at P.rules i).head) (counted 0 P.rules)
      (λ i k h. has-cyclic part parts (rule_at P.rules i).head c (in-member parts c j) h))) in
      omega arith

  pub total-atoms : (k : ℕ) → total (λ c. total (λ a. k) (atoms_in P part parts c)) parts ≤ total (λ a. k) P.atoms
  total-atoms k = total-keys (λ a. k) (λ c a. part a == c) parts P.atoms (rises-apart 0 parts rise) (λ a j c d h l. sym (eqb-true (part a) c h) ∙ eqb-true (part a) d l)

  -- ---- the made program

  module _ (names : List Name) where
    abbrev num : Name → ℕ
    num = atom_of_name P.atoms names

    abbrev count_new : Name → ℕ
    count_new n = cond (is_new n) 1 0

    abbrev weight : Name → ℕ
    weight n = count_new n + total rule_size (rules_of_name P part parts num n) + total edge_size (edges_of P part parts num n)

    length-new : (ns : List Name) → length (filter is_new ns) ≡ total count_new ns
    length-new [] = refl
    length-new (n ∷ ns) = go (is_new n) (length-new ns)
      where
        go : (b : Bool) → length (filter is_new ns) ≡ total (λ m. cond (is_new m) 1 0) ns → length (cond b (n ∷ filter is_new ns) (filter is_new ns)) ≡ cond b 1 0 + total (λ m. cond (is_new m) 1 0) ns
        go true h = ap suc h ∙ omega arith
        go false h = h ∙ omega arith

    made-atoms : length (made P part parts names).atoms ≤ length P.atoms + total count_new names
    made-atoms =
        let a : length (rising (P.atoms ++ map num (filter is_new names))) ≤ length (P.atoms ++ map num (filter is_new names)) = length-rising (P.atoms ++ map num (filter is_new names)) in
        let b : length (P.atoms ++ map num (filter is_new names)) ≡ length P.atoms + length (map num (filter is_new names)) = length-append P.atoms (map num (filter is_new names)) in
        let c : length (map num (filter is_new names)) ≡ length (filter is_new names) = length-map (filter is_new names) num in
        let d : length (filter is_new names) ≡ total count_new names = length-new names in
        omega arith

    made-rules : sum_by rule_size (made P part parts names).rules ≡ total rule_size (kept_rules P part parts) + total (λ n. total rule_size (rules_of_name P part parts num n)) names
    made-rules = sym (total-sum_by rule_size (made P part parts names).rules)
        ∙ (total-append rule_size (kept_rules P part parts) (flat_map (rules_of_name P part parts num) names)
        ∙ ap (λ k. total rule_size (kept_rules P part parts) + k) (total-flat rule_size (rules_of_name P part parts num) names))

    made-edges : sum_by edge_size (made P part parts names).edges ≡ total edge_size P.edges + total (λ n. total edge_size (edges_of P part parts num n)) names
    made-edges = sym (total-sum_by edge_size (made P part parts names).edges)
        ∙ (total-append edge_size (kept_edges P part parts) (flat_map (edges_of P part parts num) names)
        ∙ ap₂ ◌+◌ (total-map edge_size _ P.edges) (total-flat edge_size (edges_of P part parts num) names))

    weights : total weight names ≡ total count_new names + total (λ n. total rule_size (rules_of_name P part parts num n)) names + total (λ n. total edge_size (edges_of P part parts num n)) names
    weights = total-both (λ n. count_new n + total rule_size (rules_of_name P part parts num n)) (λ n. total edge_size (edges_of P part parts num n)) names
        ∙ ap (λ k. k + total (λ n. total edge_size (edges_of P part parts num n)) names) (total-both count_new (λ n. total rule_size (rules_of_name P part parts num n)) names)

    abbrev other_size : ℕ
    other_size = length P.required + total edge_size P.edges + sum_by (λ level. 1 + length level.items) P.levels + sum_by (λ show. 1 + length show.condition) P.shows

    pub made-size : size (made P part parts names) ≤ length P.atoms + total rule_size (kept_rules P part parts) + total weight names + other_size
    made-size =
        let a : length (made P part parts names).atoms ≤ length P.atoms + total count_new names = made-atoms in
        let b : sum_by rule_size (made P part parts names).rules ≡ total rule_size (kept_rules P part parts) + total (λ n. total rule_size (rules_of_name P part parts num n)) names = made-rules in
        let c : sum_by edge_size (made P part parts names).edges ≡ total edge_size P.edges + total (λ n. total edge_size (edges_of P part parts num n)) names = made-edges in
        let d : total weight names ≡ total count_new names + total (λ n. total rule_size (rules_of_name P part parts num n)) names + total (λ n. total edge_size (edges_of P part parts num n)) names = weights in
        omega arith

    -- ---- weights of names

    both-weight : (a : ℕ) → total weight (both_names P part parts a) ≡ 5 + total (λ i. 5 + e i) (rules_of P part parts a)
    both-weight a =
        let f : total weight (map Fires (rules_of P part parts a)) ≡ total (λ i. weight (Fires i)) (rules_of P part parts a) = total-map weight Fires (rules_of P part parts a) in
        let g : total (λ i. weight (Fires i)) (rules_of P part parts a) ≡ total (λ i. 5 + e i) (rules_of P part parts a) =
        total-same (λ i. weight (Fires i)) (λ i. 5 + e i) (rules_of P part parts a) (λ i j. omega arith) in
        let x : weight (Atom a) ≡ 2 = omega arith in
        let y : weight (Complement a) ≡ 3 = omega arith in
        omega arith

    edge-weight : (a : ℕ) → total weight (edge_names P part parts a) ≡ 10 * length (ends_of P part parts a)
    edge-weight a =
        total-flat weight (λ b. Chosen a b ∷ Left a b ∷ []) (ends_of P part parts a)
        ∙ (total-same (λ b. total weight (Chosen a b ∷ Left a b ∷ [])) (λ b. 10) (ends_of P part parts a) (λ b i. omega arith) ∙ times 10 (ends_of P part parts a))

    -- rules from the bodies of a list of indices
    body-sizes : (h : ℕ) (f : ℕ → List Literal) (xs : List ℕ) → total rule_size (map (λ lits. record { head = One h; body = All lits }) (map f xs)) ≡ total (λ i. 1 + length (f i)) xs
    body-sizes h f xs = total-map rule_size (λ lits. record { head = One h; body = All lits }) (map f xs)
        ∙ (total-map (λ lits. rule_size (record { head = One h; body = All lits })) f xs ∙ total-same (λ i. rule_size (record { head = One h; body = All (f i) })) (λ i. 1 + length (f i)) xs (λ i j. omega arith))

    backed-weight : (a : ℕ) → weight (Backed a) ≡ 4 + total (λ i. 2 + p i) (rules_of P part parts a)
    backed-weight a =
        let f : ℕ → List Literal = λ i. Pos (num (Fires i)) ∷ map (λ b. Pos (num (Chosen a b))) (inner_at P part parts i) in
        let x : total rule_size (rules_of_name P part parts num (Backed a)) ≡ total rule_size (map (λ lits. record { head = One (num (Backed a)); body = All lits }) (map f (rules_of P part parts a))) + 3 =
        total-append rule_size (map (λ lits. record { head = One (num (Backed a)); body = All lits }) (map f (rules_of P part parts a))) _ in
        let y : total rule_size (map (λ lits. record { head = One (num (Backed a)); body = All lits }) (map f (rules_of P part parts a))) ≡ total (λ i. 1 + length (f i)) (rules_of P part parts a) = body-sizes (num (Backed a)) f (rules_of P part parts a) in
        let z : total (λ i. 1 + length (f i)) (rules_of P part parts a) ≡ total (λ i. 2 + p i) (rules_of P part parts a) =
        total-same (λ i. 1 + length (f i)) (λ i. 2 + p i) (rules_of P part parts a) (λ i j. let l : length (map (λ b. Pos (num (Chosen a b))) (inner_at P part parts i)) ≡ p i = length-map (inner_at P part parts i) (λ b. Pos (num (Chosen a b))) in omega arith) in
        omega arith

    pair-weight : (a c : ℕ) → weight (NoLater a c) ≤ 1 + total (λ i. 2 + p i) (rules_of P part parts a) + cond (a == c) 3 0
    pair-weight a c = go (a == c)
      where
        R : List Literal → Rule
        R lits = record { head = One (num (NoLater a c)); body = All lits }

        go : (b : Bool) → 1 + total rule_size (map (λ lits. record { head = One (num (NoLater a c)); body = All lits }) (cond b (map (λ i. Pos (num (Backs i)) ∷ []) (rules_of P part parts a)) (map (λ i. Pos (num (Fires i)) ∷ map (λ z. Neg (num (NoLater c z))) (inner_at P part parts i)) (rules_of P part parts a)))
            ++ map (λ lits. record { head = Nothing; body = All lits }) (cond b ((Pos a ∷ Neg (num (NoLater a c)) ∷ []) ∷ []) [])) + 0 ≤ 1 + total (λ i. 2 + p i) (rules_of P part parts a) + cond b 3 0
        go true =
            let x : total rule_size (map (λ lits. record { head = One (num (NoLater a c)); body = All lits }) (map (λ i. Pos (num (Backs i)) ∷ []) (rules_of P part parts a)) ++ map (λ lits. record { head = Nothing; body = All lits }) ((Pos a ∷ Neg (num (NoLater a c)) ∷ []) ∷ []))
            ≡ total rule_size (map (λ lits. record { head = One (num (NoLater a c)); body = All lits }) (map (λ i. Pos (num (Backs i)) ∷ []) (rules_of P part parts a))) + 3 =
            total-append rule_size (map (λ lits. record { head = One (num (NoLater a c)); body = All lits }) (map (λ i. Pos (num (Backs i)) ∷ []) (rules_of P part parts a))) _ in
            let y : total rule_size (map (λ lits. record { head = One (num (NoLater a c)); body = All lits }) (map (λ i. Pos (num (Backs i)) ∷ []) (rules_of P part parts a))) ≡ total (λ i. 2) (rules_of P part parts a) = body-sizes (num (NoLater a c)) (λ i. Pos (num (Backs i)) ∷ []) (rules_of P part parts a) in
            let z : total (λ i. 2) (rules_of P part parts a) ≤ total (λ i. 2 + p i) (rules_of P part parts a) = total-le (λ i. 2) (λ i. 2 + p i) (rules_of P part parts a) (λ i j. omega arith) in
            omega arith
        go false =
            let f : ℕ → List Literal = λ i. Pos (num (Fires i)) ∷ map (λ z. Neg (num (NoLater c z))) (inner_at P part parts i) in
            let x : total rule_size (map (λ lits. record { head = One (num (NoLater a c)); body = All lits }) (map f (rules_of P part parts a)) ++ []) ≡ total rule_size (map (λ lits. record { head = One (num (NoLater a c)); body = All lits }) (map f (rules_of P part parts a))) + 0 =
            total-append rule_size (map (λ lits. record { head = One (num (NoLater a c)); body = All lits }) (map f (rules_of P part parts a))) [] in
            let y : total rule_size (map (λ lits. record { head = One (num (NoLater a c)); body = All lits }) (map f (rules_of P part parts a))) ≡ total (λ i. 1 + length (f i)) (rules_of P part parts a) = body-sizes (num (NoLater a c)) f (rules_of P part parts a) in
            let z : total (λ i. 1 + length (f i)) (rules_of P part parts a) ≡ total (λ i. 2 + p i) (rules_of P part parts a) =
            total-same (λ i. 1 + length (f i)) (λ i. 2 + p i) (rules_of P part parts a) (λ i j. let l : length (map (λ z. Neg (num (NoLater c z))) (inner_at P part parts i)) ≡ p i = length-map (inner_at P part parts i) (λ z. Neg (num (NoLater c z))) in omega arith) in
            omega arith

    backs-weight : (i : ℕ) → weight (Backs i) ≡ 3 + 3 * p i
    backs-weight i =
        let x : length (map (λ z. Neg (num (NoLater (head_at P part parts i) z))) (inner_at P part parts i)) ≡ p i = length-map (inner_at P part parts i) (λ z. Neg (num (NoLater (head_at P part parts i) z))) in
        let y : total edge_size (edges_of P part parts num (Backs i)) ≡ total (λ b. 2) (inner_at P part parts i) = total-map edge_size _ (inner_at P part parts i) in
        let z : total (λ b. 2) (inner_at P part parts i) ≡ 2 * p i = times 2 (inner_at P part parts i) in
        omega arith

  -- ---- sums of weights

  pub inner-few : (i a : ℕ) → In i (rules_of P part parts a) → p i ≤ e i
  inner-few i a h = go (rule_at P.rules i).body ((index-normal P program normal part parts i a h).1)
    where
      go : (body : Body) → IsNormalBody body → length (once (filter (λ b. part b == part (head_at P part parts i)) (positives_of_body body))) ≤ length (literals_of body)
      go (All lits) n =
          let x : length (once (filter (λ b. part b == part (head_at P part parts i)) (positives_of_literals lits))) ≤ length (filter (λ b. part b == part (head_at P part parts i)) (positives_of_literals lits)) = length-once _ in
          let y : length (filter (λ b. part b == part (head_at P part parts i)) (positives_of_literals lits)) ≤ length (positives_of_literals lits) = length-part (λ b. part b == part (head_at P part parts i)) (positives_of_literals lits) in
          let z : length (positives_of_literals lits) ≤ length lits = length-positives lits in
          omega arith
      go (Sum bound items) n = absurd n

  ends-few : (a : ℕ) → length (ends_of P part parts a) ≤ total p (rules_of P part parts a)
  ends-few a =
      let xs : List ℕ = flat_map (inner_at P part parts) (rules_of P part parts a) in
      let x : length (once (flat_map (inner_at P part parts) (rules_of P part parts a))) ≤ length (flat_map (inner_at P part parts) (rules_of P part parts a)) = length-once (flat_map (inner_at P part parts) (rules_of P part parts a)) in
      let y : total (λ b. 1) (flat_map (inner_at P part parts) (rules_of P part parts a)) ≡ length (flat_map (inner_at P part parts) (rules_of P part parts a)) = total-one (flat_map (inner_at P part parts) (rules_of P part parts a)) in
      let z : total (λ b. 1) (flat_map (inner_at P part parts) (rules_of P part parts a)) ≡ total (λ i. total (λ b. 1) (inner_at P part parts i)) (rules_of P part parts a) = total-flat (λ b. 1) (inner_at P part parts) (rules_of P part parts a) in
      let w : total (λ i. total (λ b. 1) (inner_at P part parts i)) (rules_of P part parts a) ≡ total p (rules_of P part parts a) = total-same (λ i. total (λ b. 1) (inner_at P part parts i)) p (rules_of P part parts a) (λ i j. total-one (inner_at P part parts i)) in
      omega arith

  -- so many times the sizes of the rules with a head in a cyclic component
  scaled : ℕ → ℕ → ℕ
  scaled k i = k * (1 + e i)

  scaled-rules : (k : ℕ) → total (λ i. k * (1 + e i)) (filter (λ i. has_head_in (is_cyclic P part parts) (rule_at P.rules i).head) (counted 0 P.rules)) ≤ k * total rule_size (filter (λ rule. has_head_in (is_cyclic P part parts) rule.head) P.rules)
  scaled-rules k =
      let cyc : List Rule = filter (λ rule. has_head_in (is_cyclic P part parts) rule.head) P.rules in
      let x : total (λ i. k * (1 + e i)) (filter (λ i. has_head_in (is_cyclic P part parts) (rule_at P.rules i).head) (counted 0 P.rules)) ≡ total (λ rule. k * (1 + length (literals_of rule.body))) (filter (λ rule. has_head_in (is_cyclic P part parts) rule.head) P.rules) =
      total-counted (λ rule. k * (1 + length (literals_of rule.body))) (λ rule. has_head_in (is_cyclic P part parts) rule.head) P.rules in
      let y : total (λ rule. k * (1 + length (literals_of rule.body))) (filter (λ rule. has_head_in (is_cyclic P part parts) rule.head) P.rules) ≤ total (λ rule. k * rule_size rule) (filter (λ rule. has_head_in (is_cyclic P part parts) rule.head) P.rules) =
      total-le (λ rule. k * (1 + length (literals_of rule.body))) (λ rule. k * rule_size rule) (filter (λ rule. has_head_in (is_cyclic P part parts) rule.head) P.rules)
      (λ rule i. mul-mono k (1 + length (literals_of rule.body)) (rule_size rule) (let l : length (literals_of rule.body) ≤ entries rule.body = body-entries rule.body in omega arith)) in
      let z : total (λ rule. k * rule_size rule) (filter (λ rule. has_head_in (is_cyclic P part parts) rule.head) P.rules) ≡ k * total rule_size (filter (λ rule. has_head_in (is_cyclic P part parts) rule.head) P.rules) = total-times k rule_size (filter (λ rule. has_head_in (is_cyclic P part parts) rule.head) P.rules) in
      omega arith

  -- over all components, where a component's weight has a bound by its atoms and rules
  all-parts : (weight : Name → ℕ) (of : ℕ → List Name) (more : ℕ → ℕ) (j k : ℕ)
      → ((c : ℕ) → total weight (of c) ≤ more c + (total (λ a. j) (atoms_in P part parts c) + total (λ i. k * (1 + e i)) (heads_in c)))
      → total weight (flat_map of parts) ≤ total more parts + (j * length P.atoms + k * total rule_size (filter (λ rule. has_head_in (is_cyclic P part parts) rule.head) P.rules))
  all-parts weight of more j k h =
      let x : total weight (flat_map of parts) ≡ total (λ c. total weight (of c)) parts = total-flat weight of parts in
      let y : total (λ c. total weight (of c)) parts ≤ total (λ c. more c + (total (λ a. j) (atoms_in P part parts c) + total (λ i. k * (1 + e i)) (heads_in c))) parts =
      total-le (λ c. total weight (of c)) (λ c. more c + (total (λ a. j) (atoms_in P part parts c) + total (λ i. k * (1 + e i)) (heads_in c))) parts (λ c i. h c) in
      let z : total (λ c. more c + (total (λ a. j) (atoms_in P part parts c) + total (λ i. k * (1 + e i)) (heads_in c))) parts ≡ total more parts + total (λ c. total (λ a. j) (atoms_in P part parts c) + total (λ i. k * (1 + e i)) (heads_in c)) parts =
      total-both more (λ c. total (λ a. j) (atoms_in P part parts c) + total (λ i. k * (1 + e i)) (heads_in c)) parts in
      let w : total (λ c. total (λ a. j) (atoms_in P part parts c) + total (λ i. k * (1 + e i)) (heads_in c)) parts ≡ total (λ c. total (λ a. j) (atoms_in P part parts c)) parts + total (λ c. total (λ i. k * (1 + e i)) (heads_in c)) parts =
      total-both (λ c. total (λ a. j) (atoms_in P part parts c)) (λ c. total (λ i. k * (1 + e i)) (heads_in c)) parts in
      let u : total (λ c. total (λ a. j) (atoms_in P part parts c)) parts ≤ total (λ a. j) P.atoms = total-atoms j in
      let v : total (λ a. j) P.atoms ≡ j * length P.atoms = times j P.atoms in
      let s : total (λ c. total (λ i. k * (1 + e i)) (heads_in c)) parts ≤ total (λ i. k * (1 + e i)) (filter (λ i. has_head_in (is_cyclic P part parts) (rule_at P.rules i).head) (counted 0 P.rules)) = total-parts (λ i. k * (1 + e i)) in
      let t : total (λ i. k * (1 + e i)) (filter (λ i. has_head_in (is_cyclic P part parts) (rule_at P.rules i).head) (counted 0 P.rules)) ≤ k * total rule_size (filter (λ rule. has_head_in (is_cyclic P part parts) rule.head) P.rules) = scaled-rules k in
      omega arith

  -- sums over the rules of one atom
  module _ (xs : List ℕ) where
    five : total (λ i. 5 + e i) xs ≡ 5 * length xs + total e xs
    five = total-both (λ i. 5) e xs ∙ ap (λ k. k + total e xs) (times 5 xs)

    two : total (λ i. 2 + p i) xs ≡ 2 * length xs + total p xs
    two = total-both (λ i. 2) p xs ∙ ap (λ k. k + total p xs) (times 2 xs)

    three : total (λ i. 3 + 3 * p i) xs ≡ 3 * length xs + 3 * total p xs
    three = total-both (λ i. 3) (λ i. 3 * p i) xs ∙ ap₂ ◌+◌ (times 3 xs) (total-times 3 p xs)

    whole : (k : ℕ) → total (λ i. k * (1 + e i)) xs ≡ k * (length xs + total e xs)
    whole k = total-times k (λ i. 1 + e i) xs ∙ ap (λ n. k * n) (total-both (λ i. 1) e xs ∙ ap (λ n. n + total e xs) (total-one xs))

  total-inner : (a : ℕ) → total p (rules_of P part parts a) ≤ total e (rules_of P part parts a)
  total-inner a = total-le p e (rules_of P part parts a) (λ i h. inner-few i a h)

  total-split_rules : total rule_size (filter (λ rule. has_head_in (is_cyclic P part parts) rule.head) P.rules) + total rule_size (kept_rules P part parts) ≡ sum_by rule_size P.rules
  total-split_rules = total-split rule_size (λ rule. has_head_in (is_cyclic P part parts) rule.head) P.rules ∙ total-sum_by rule_size P.rules

  -- ---- the first encoding

  plain-part : (names : List Name) (c : ℕ) → total (weight names) (plain_names P part parts c) ≤ total (λ a. 11) (atoms_in P part parts c) + total (λ i. 12 * (1 + e i)) (heads_in c)
  plain-part names c =
      let S : List ℕ = atoms_in P part parts c in
      let A : ℕ → ℕ = λ a. total (weight names) (both_names P part parts a) in
      let B : ℕ → ℕ = λ a. total (weight names) (edge_names P part parts a) in
      let C : ℕ → ℕ = λ a. weight names (Backed a) in
      let x : total (weight names) (plain_names P part parts c) ≡ total (weight names) (flat_map (both_names P part parts) S) + total (weight names) (flat_map (edge_names P part parts) S ++ map Backed S) =
      total-append (weight names) (flat_map (both_names P part parts) S) (flat_map (edge_names P part parts) S ++ map Backed S) in
      let y : total (weight names) (flat_map (edge_names P part parts) S ++ map Backed S) ≡ total (weight names) (flat_map (edge_names P part parts) S) + total (weight names) (map Backed S) = total-append (weight names) (flat_map (edge_names P part parts) S) (map Backed S) in
      let a : total (weight names) (flat_map (both_names P part parts) S) ≡ total A S = total-flat (weight names) (both_names P part parts) S in
      let b : total (weight names) (flat_map (edge_names P part parts) S) ≡ total B S = total-flat (weight names) (edge_names P part parts) S in
      let d : total (weight names) (map Backed S) ≡ total C S = total-map (weight names) Backed S in
      let z : total (λ s. A s + (B s + C s)) S ≡ total A S + total (λ s. B s + C s) S = total-both A (λ s. B s + C s) S in
      let w : total (λ s. B s + C s) S ≡ total B S + total C S = total-both B C S in
      let u : total (λ s. A s + (B s + C s)) S ≤ total (λ s. 11 + total (λ i. 12 * (1 + e i)) (rules_of P part parts s)) S = total-le (λ s. A s + (B s + C s)) (λ s. 11 + total (λ i. 12 * (1 + e i)) (rules_of P part parts s)) S (λ s j. one s) in
      let v : total (λ s. 11 + total (λ i. 12 * (1 + e i)) (rules_of P part parts s)) S ≡ total (λ s. 11) S + total (λ s. total (λ i. 12 * (1 + e i)) (rules_of P part parts s)) S = total-both (λ s. 11) (λ s. total (λ i. 12 * (1 + e i)) (rules_of P part parts s)) S in
      let t : total (λ s. total (λ i. 12 * (1 + e i)) (rules_of P part parts s)) S ≤ total (λ i. 12 * (1 + e i)) (heads_in c) = total-rules (λ i. 12 * (1 + e i)) c in
      omega arith
    where
      one : (a : ℕ) → total (weight names) (both_names P part parts a) + (total (weight names) (edge_names P part parts a) + weight names (Backed a)) ≤ 11 + total (λ i. 12 * (1 + e i)) (rules_of P part parts a)
      one a =
          let xs : List ℕ = rules_of P part parts a in
          let x : total (weight names) (both_names P part parts a) ≡ 5 + total (λ i. 5 + e i) (rules_of P part parts a) = both-weight names a in
          let y : total (weight names) (edge_names P part parts a) ≡ 10 * length (ends_of P part parts a) = edge-weight names a in
          let z : weight names (Backed a) ≡ 4 + total (λ i. 2 + p i) (rules_of P part parts a) = backed-weight names a in
          let w : length (ends_of P part parts a) ≤ total p (rules_of P part parts a) = ends-few a in
          let s : total (λ i. 5 + e i) (rules_of P part parts a) ≡ 5 * length (rules_of P part parts a) + total e (rules_of P part parts a) = five (rules_of P part parts a) in
          let t : total (λ i. 2 + p i) (rules_of P part parts a) ≡ 2 * length (rules_of P part parts a) + total p (rules_of P part parts a) = two (rules_of P part parts a) in
          let u : total (λ i. 12 * (1 + e i)) (rules_of P part parts a) ≡ 12 * (length (rules_of P part parts a) + total e (rules_of P part parts a)) = whole (rules_of P part parts a) 12 in
          let v : total p (rules_of P part parts a) ≤ total e (rules_of P part parts a) = total-inner a in
          omega arith

  pub plain-size : size (plain P part parts) ≤ 12 * size P
  plain-size =
      let names : List Name = flat_map (plain_names P part parts) parts in
      let cyc : ℕ = total rule_size (filter (λ rule. has_head_in (is_cyclic P part parts) rule.head) P.rules) in
      let x : size (plain P part parts) ≤ length P.atoms + total rule_size (kept_rules P part parts) + total (weight (flat_map (plain_names P part parts) parts)) (flat_map (plain_names P part parts) parts) + other_size names = made-size (flat_map (plain_names P part parts) parts) in
      let y : total (weight names) (flat_map (plain_names P part parts) parts) ≤ total (λ c. 0) parts + (11 * length P.atoms + 12 * total rule_size (filter (λ rule. has_head_in (is_cyclic P part parts) rule.head) P.rules)) =
      all-parts (weight names) (plain_names P part parts) (λ c. 0) 11 12 (λ c. let h : total (weight names) (plain_names P part parts c) ≤ total (λ a. 11) (atoms_in P part parts c) + total (λ i. 12 * (1 + e i)) (heads_in c) = plain-part names c in omega arith) in
      let z : total (λ c. 0) parts ≡ 0 * length parts = times 0 parts in
      let w : total rule_size (filter (λ rule. has_head_in (is_cyclic P part parts) rule.head) P.rules) + total rule_size (kept_rules P part parts) ≡ sum_by rule_size P.rules = total-split_rules in
      let s : total edge_size P.edges ≡ sum_by edge_size P.edges = total-sum_by edge_size P.edges in
      omega arith

  -- ---- the second encoding

  abbrev o : ℕ → ℕ → ℕ
  o c i = length (filter (λ b. part b == c) (positives_of_body (rule_at P.rules i).body))

  inner-occurs : (c i a : ℕ) → part a ≡ c → In i (rules_of P part parts a) → p i ≤ o c i
  inner-occurs c i a q h =
      let x : part (head_at P part parts i) ≡ c = ap part (index-head P program normal part parts i a h) ∙ q in
      let y : length (once (filter (λ b. part b == part (head_at P part parts i)) (positives_of_body (rule_at P.rules i).body))) ≤ length (filter (λ b. part b == part (head_at P part parts i)) (positives_of_body (rule_at P.rules i).body)) = length-once _ in
      subst (λ d. p i ≤ length (filter (λ b. part b == d) (positives_of_body (rule_at P.rules i).body))) x y

  -- the bodies of comparisons
  bodies-few : (c : ℕ) → total (λ a. total (λ i. 2 + p i) (rules_of P part parts a)) (atoms_in P part parts c) ≤ 2 * length (rules_in P part parts c) + occurrences_in P part parts c
  bodies-few c =
      let S : List ℕ = atoms_in P part parts c in
      let x : total (λ a. total (λ i. 2 + p i) (rules_of P part parts a)) (atoms_in P part parts c) ≤ total (λ a. total (λ i. 2 + o c i) (rules_of P part parts a)) (atoms_in P part parts c) =
      total-le (λ a. total (λ i. 2 + p i) (rules_of P part parts a)) (λ a. total (λ i. 2 + o c i) (rules_of P part parts a)) (atoms_in P part parts c)
      (λ a j. total-le (λ i. 2 + p i) (λ i. 2 + o c i) (rules_of P part parts a) (λ i h. let l : p i ≤ o c i = inner-occurs c i a (in-part c a j) h in omega arith)) in
      let y : total (λ a. total (λ i. 2 + o c i) (rules_of P part parts a)) (atoms_in P part parts c) ≤ total (λ i. 2 + o c i) (heads_in c) = total-rules (λ i. 2 + o c i) c in
      let z : total (λ i. 2 + o c i) (heads_in c) ≡ total (λ rule. 2 + length (filter (λ b. part b == c) (positives_of_body rule.body))) (rules_in P part parts c) =
      total-counted (λ rule. 2 + length (filter (λ b. part b == c) (positives_of_body rule.body))) (λ rule. has_head_in (λ a. part a == c) rule.head) P.rules in
      let w : total (λ rule. 2 + length (filter (λ b. part b == c) (positives_of_body rule.body))) (rules_in P part parts c) ≡ total (λ rule. 2) (rules_in P part parts c) + total (λ rule. length (filter (λ b. part b == c) (positives_of_body rule.body))) (rules_in P part parts c) =
      total-both (λ rule. 2) (λ rule. length (filter (λ b. part b == c) (positives_of_body rule.body))) (rules_in P part parts c) in
      let u : total (λ rule. 2) (rules_in P part parts c) ≡ 2 * length (rules_in P part parts c) = times 2 (rules_in P part parts c) in
      let v : total (λ rule. length (filter (λ b. part b == c) (positives_of_body rule.body))) (rules_in P part parts c) ≡ occurrences_in P part parts c = total-sum_by (λ rule. length (filter (λ b. part b == c) (positives_of_body rule.body))) (rules_in P part parts c) in
      omega arith

  -- the comparisons of a component
  pairs-few : (names : List Name) (c : ℕ) → total (λ a. total (weight names) (map (NoLater a) (atoms_in P part parts c))) (atoms_in P part parts c) ≤ 2 * pairs_in P part parts c + 3 * length (atoms_in P part parts c)
  pairs-few names c =
      let s : ℕ = length (atoms_in P part parts c) in
      let T : ℕ → ℕ = λ a. total (λ i. 2 + p i) (rules_of P part parts a) in
      let x : total (λ a. total (weight names) (map (NoLater a) (atoms_in P part parts c))) (atoms_in P part parts c) ≤ total (λ a. s * (1 + T a) + 3) (atoms_in P part parts c) =
      total-le (λ a. total (weight names) (map (NoLater a) (atoms_in P part parts c))) (λ a. s * (1 + T a) + 3) (atoms_in P part parts c) (λ a j. one a) in
      let y : total (λ a. s * (1 + T a) + 3) (atoms_in P part parts c) ≡ total (λ a. s * (1 + T a)) (atoms_in P part parts c) + total (λ a. 3) (atoms_in P part parts c) = total-both (λ a. s * (1 + T a)) (λ a. 3) (atoms_in P part parts c) in
      let z : total (λ a. s * (1 + T a)) (atoms_in P part parts c) ≡ s * total (λ a. 1 + T a) (atoms_in P part parts c) = total-times s (λ a. 1 + T a) (atoms_in P part parts c) in
      let w : total (λ a. 1 + T a) (atoms_in P part parts c) ≡ total (λ a. 1) (atoms_in P part parts c) + total T (atoms_in P part parts c) = total-both (λ a. 1) T (atoms_in P part parts c) in
      let w2 : total (λ a. 1) (atoms_in P part parts c) ≡ s = total-one (atoms_in P part parts c) in
      let few : total T (atoms_in P part parts c) ≤ 2 * length (rules_in P part parts c) + occurrences_in P part parts c = bodies-few c in
      let m : s * total (λ a. 1 + T a) (atoms_in P part parts c) ≤ s * (2 * (s + length (rules_in P part parts c) + occurrences_in P part parts c)) =
      mul-mono s (total (λ a. 1 + T a) (atoms_in P part parts c)) (2 * (s + length (rules_in P part parts c) + occurrences_in P part parts c)) (omega arith) in
      let n : s * (2 * (s + length (rules_in P part parts c) + occurrences_in P part parts c)) ≡ 2 * (s * (s + length (rules_in P part parts c) + occurrences_in P part parts c)) = times-two s (s + length (rules_in P part parts c) + occurrences_in P part parts c) in
      let q : total (λ a. 3) (atoms_in P part parts c) ≡ 3 * s = times 3 (atoms_in P part parts c) in
      omega arith
    where
      one : (a : ℕ) → total (weight names) (map (NoLater a) (atoms_in P part parts c)) ≤ length (atoms_in P part parts c) * (1 + total (λ i. 2 + p i) (rules_of P part parts a)) + 3
      one a =
          let t : ℕ = 1 + total (λ i. 2 + p i) (rules_of P part parts a) in
          let x : total (weight names) (map (NoLater a) (atoms_in P part parts c)) ≡ total (λ d. weight names (NoLater a d)) (atoms_in P part parts c) = total-map (weight names) (NoLater a) (atoms_in P part parts c) in
          let y : total (λ d. weight names (NoLater a d)) (atoms_in P part parts c) ≤ total (λ d. t + cond (a == d) 3 0) (atoms_in P part parts c) = total-le (λ d. weight names (NoLater a d)) (λ d. t + cond (a == d) 3 0) (atoms_in P part parts c) (λ d j. pair-weight names a d) in
          let z : total (λ d. t + cond (a == d) 3 0) (atoms_in P part parts c) ≡ total (λ d. t) (atoms_in P part parts c) + total (λ d. cond (a == d) 3 0) (atoms_in P part parts c) = total-both (λ d. t) (λ d. cond (a == d) 3 0) (atoms_in P part parts c) in
          let w : total (λ d. t) (atoms_in P part parts c) ≡ length (atoms_in P part parts c) * t = times_turned t (atoms_in P part parts c) in
          let u : total (λ d. cond (a == d) 3 0) (atoms_in P part parts c) ≤ 3 = once-twice a (atoms_in P part parts c) (atoms-apart c) in
          omega arith

  unique-part : (names : List Name) (c : ℕ) → total (weight names) (unique_names P part parts c) ≤ 3 * pairs_in P part parts c + (total (λ a. 7) (atoms_in P part parts c) + total (λ i. 8 * (1 + e i)) (heads_in c))
  unique-part names c =
      let S : List ℕ = atoms_in P part parts c in
      let A : ℕ → ℕ = λ a. total (weight names) (both_names P part parts a) in
      let B : ℕ → ℕ = λ a. total (weight names) (map (NoLater a) (atoms_in P part parts c)) in
      let C : ℕ → ℕ = λ a. total (weight names) (map Backs (rules_of P part parts a)) in
      let x : total (weight names) (unique_names P part parts c) ≡ total (weight names) (flat_map (both_names P part parts) S) + total (weight names) (flat_map (λ a. map (NoLater a) (atoms_in P part parts c)) S ++ flat_map (λ a. map Backs (rules_of P part parts a)) S) =
      total-append (weight names) (flat_map (both_names P part parts) S) (flat_map (λ a. map (NoLater a) (atoms_in P part parts c)) S ++ flat_map (λ a. map Backs (rules_of P part parts a)) S) in
      let y : total (weight names) (flat_map (λ a. map (NoLater a) (atoms_in P part parts c)) S ++ flat_map (λ a. map Backs (rules_of P part parts a)) S) ≡ total (weight names) (flat_map (λ a. map (NoLater a) (atoms_in P part parts c)) S) + total (weight names) (flat_map (λ a. map Backs (rules_of P part parts a)) S) =
      total-append (weight names) (flat_map (λ a. map (NoLater a) (atoms_in P part parts c)) S) (flat_map (λ a. map Backs (rules_of P part parts a)) S) in
      let a : total (weight names) (flat_map (both_names P part parts) S) ≡ total A S = total-flat (weight names) (both_names P part parts) S in
      let b : total (weight names) (flat_map (λ a. map (NoLater a) (atoms_in P part parts c)) S) ≡ total B S = total-flat (weight names) (λ a. map (NoLater a) (atoms_in P part parts c)) S in
      let d : total (weight names) (flat_map (λ a. map Backs (rules_of P part parts a)) S) ≡ total C S = total-flat (weight names) (λ a. map Backs (rules_of P part parts a)) S in
      let few : total B S ≤ 2 * pairs_in P part parts c + 3 * length (atoms_in P part parts c) = pairs-few names c in
      let z : total (λ s. A s + C s) S ≡ total A S + total C S = total-both A C S in
      let u : total (λ s. A s + C s) S ≤ total (λ s. 5 + total (λ i. 8 * (1 + e i)) (rules_of P part parts s)) S = total-le (λ s. A s + C s) (λ s. 5 + total (λ i. 8 * (1 + e i)) (rules_of P part parts s)) S (λ s j. one s) in
      let v : total (λ s. 5 + total (λ i. 8 * (1 + e i)) (rules_of P part parts s)) S ≡ total (λ s. 5) S + total (λ s. total (λ i. 8 * (1 + e i)) (rules_of P part parts s)) S = total-both (λ s. 5) (λ s. total (λ i. 8 * (1 + e i)) (rules_of P part parts s)) S in
      let t : total (λ s. total (λ i. 8 * (1 + e i)) (rules_of P part parts s)) S ≤ total (λ i. 8 * (1 + e i)) (heads_in c) = total-rules (λ i. 8 * (1 + e i)) c in
      let f : total (λ s. 5) S ≡ 5 * length (atoms_in P part parts c) = times 5 S in
      let g : total (λ s. 7) S ≡ 7 * length (atoms_in P part parts c) = times 7 S in
      let sq : length (atoms_in P part parts c) ≤ length (atoms_in P part parts c) * (length (atoms_in P part parts c) + (length (rules_in P part parts c) + occurrences_in P part parts c)) = le-square (length (atoms_in P part parts c)) (length (rules_in P part parts c) + occurrences_in P part parts c) in
      let same : length (atoms_in P part parts c) + (length (rules_in P part parts c) + occurrences_in P part parts c) ≡ length (atoms_in P part parts c) + length (rules_in P part parts c) + occurrences_in P part parts c = omega arith in
      let pr : length (atoms_in P part parts c) ≤ pairs_in P part parts c = subst (λ k. length (atoms_in P part parts c) ≤ length (atoms_in P part parts c) * k) same sq in
      omega arith
    where
      one : (a : ℕ) → total (weight names) (both_names P part parts a) + total (weight names) (map Backs (rules_of P part parts a)) ≤ 5 + total (λ i. 8 * (1 + e i)) (rules_of P part parts a)
      one a =
          let x : total (weight names) (both_names P part parts a) ≡ 5 + total (λ i. 5 + e i) (rules_of P part parts a) = both-weight names a in
          let y : total (weight names) (map Backs (rules_of P part parts a)) ≡ total (λ i. weight names (Backs i)) (rules_of P part parts a) = total-map (weight names) Backs (rules_of P part parts a) in
          let z : total (λ i. weight names (Backs i)) (rules_of P part parts a) ≡ total (λ i. 3 + 3 * p i) (rules_of P part parts a) = total-same (λ i. weight names (Backs i)) (λ i. 3 + 3 * p i) (rules_of P part parts a) (λ i j. backs-weight names i) in
          let s : total (λ i. 5 + e i) (rules_of P part parts a) ≡ 5 * length (rules_of P part parts a) + total e (rules_of P part parts a) = five (rules_of P part parts a) in
          let t : total (λ i. 3 + 3 * p i) (rules_of P part parts a) ≡ 3 * length (rules_of P part parts a) + 3 * total p (rules_of P part parts a) = three (rules_of P part parts a) in
          let u : total (λ i. 8 * (1 + e i)) (rules_of P part parts a) ≡ 8 * (length (rules_of P part parts a) + total e (rules_of P part parts a)) = whole (rules_of P part parts a) 8 in
          let v : total p (rules_of P part parts a) ≤ total e (rules_of P part parts a) = total-inner a in
          omega arith

  pub unique-size : size (unique P part parts) ≤ 8 * (pairs P part parts + size P)
  unique-size =
      let names : List Name = flat_map (unique_names P part parts) parts in
      let x : size (unique P part parts) ≤ length P.atoms + total rule_size (kept_rules P part parts) + total (weight (flat_map (unique_names P part parts) parts)) (flat_map (unique_names P part parts) parts) + other_size names = made-size (flat_map (unique_names P part parts) parts) in
      let y : total (weight names) (flat_map (unique_names P part parts) parts) ≤ total (λ c. 3 * pairs_in P part parts c) parts + (7 * length P.atoms + 8 * total rule_size (filter (λ rule. has_head_in (is_cyclic P part parts) rule.head) P.rules)) =
      all-parts (weight names) (unique_names P part parts) (λ c. 3 * pairs_in P part parts c) 7 8 (λ c. unique-part names c) in
      let z : total (λ c. 3 * pairs_in P part parts c) parts ≡ 3 * total (pairs_in P part parts) parts = total-times 3 (pairs_in P part parts) parts in
      let q : total (pairs_in P part parts) parts ≡ pairs P part parts = total-sum_by (pairs_in P part parts) parts in
      let w : total rule_size (filter (λ rule. has_head_in (is_cyclic P part parts) rule.head) P.rules) + total rule_size (kept_rules P part parts) ≡ sum_by rule_size P.rules = total-split_rules in
      let s : total edge_size P.edges ≡ sum_by edge_size P.edges = total-sum_by edge_size P.edges in
      omega arith

  -- ---- new names

  new-few : (names : List Name) → length (filter is_new names) ≤ total (weight names) names
  new-few names =
      let x : length (filter is_new names) ≡ total (count_new names) names = length-new names names in
      let y : total (count_new names) names ≤ total (weight names) names = total-le (count_new names) (weight names) names (λ n i. omega arith) in
      omega arith

  pub plain-new : length (filter is_new (flat_map (plain_names P part parts) parts)) ≤ 12 * size P
  plain-new =
      let names : List Name = flat_map (plain_names P part parts) parts in
      let x : length (filter is_new (flat_map (plain_names P part parts) parts)) ≤ total (weight (flat_map (plain_names P part parts) parts)) (flat_map (plain_names P part parts) parts) = new-few (flat_map (plain_names P part parts) parts) in
      let y : total (weight names) (flat_map (plain_names P part parts) parts) ≤ total (λ c. 0) parts + (11 * length P.atoms + 12 * total rule_size (filter (λ rule. has_head_in (is_cyclic P part parts) rule.head) P.rules)) =
      all-parts (weight names) (plain_names P part parts) (λ c. 0) 11 12 (λ c. let h : total (weight names) (plain_names P part parts c) ≤ total (λ a. 11) (atoms_in P part parts c) + total (λ i. 12 * (1 + e i)) (heads_in c) = plain-part names c in omega arith) in
      let z : total (λ c. 0) parts ≡ 0 * length parts = times 0 parts in
      let w : total rule_size (filter (λ rule. has_head_in (is_cyclic P part parts) rule.head) P.rules) + total rule_size (kept_rules P part parts) ≡ sum_by rule_size P.rules = total-split_rules in
      omega arith

  pub unique-new : length (filter is_new (flat_map (unique_names P part parts) parts)) ≤ 8 * (pairs P part parts + size P)
  unique-new =
      let names : List Name = flat_map (unique_names P part parts) parts in
      let x : length (filter is_new (flat_map (unique_names P part parts) parts)) ≤ total (weight (flat_map (unique_names P part parts) parts)) (flat_map (unique_names P part parts) parts) = new-few (flat_map (unique_names P part parts) parts) in
      let y : total (weight names) (flat_map (unique_names P part parts) parts) ≤ total (λ c. 3 * pairs_in P part parts c) parts + (7 * length P.atoms + 8 * total rule_size (filter (λ rule. has_head_in (is_cyclic P part parts) rule.head) P.rules)) =
      all-parts (weight names) (unique_names P part parts) (λ c. 3 * pairs_in P part parts c) 7 8 (λ c. unique-part names c) in
      let z : total (λ c. 3 * pairs_in P part parts c) parts ≡ 3 * total (pairs_in P part parts) parts = total-times 3 (pairs_in P part parts) parts in
      let q : total (pairs_in P part parts) parts ≡ pairs P part parts = total-sum_by (pairs_in P part parts) parts in
      let w : total rule_size (filter (λ rule. has_head_in (is_cyclic P part parts) rule.head) P.rules) + total rule_size (kept_rules P part parts) ≡ sum_by rule_size P.rules = total-split_rules in
      omega arith
