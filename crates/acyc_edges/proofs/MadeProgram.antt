-- An encoding of a program that is not too large is a program.
use Rattle.std.proofs.Common.{◌≡◌, refl, sym, ◌∙◌, ap, subst, ℕ, suc, ◌+◌, ◌*◌, ◌^◌, ◌≤◌, ◌<◌, ℤ, pos, Bool, true, false, cond, ◌==◌, List, [], ◌∷◌, ◌++◌, map, filter, length, ⊎_elim, arith}
use Rattle.std.specs.List.{sum_by, flat_map}
use Rattle.std.specs.Ordering.{int_eq}
use Rattle.std.proofs.lemmas.Bool.{cases_Bool, cond-true, cond-false}
use Rattle.std.proofs.lemmas.Int.{ints}
use Rattle.std.proofs.lemmas.List.{length-map}
use Rattle.asp_base.specs.Literal.{Literal, Pos, Neg, atom_of}
use Rattle.asp_base.specs.Sets.{members, In}
use Rattle.ground_program.specs.Facts.{IsProgram, IsPriority, Among, IsShort, LiteralsFit, HeadFits, BodyFits, RuleFits, ConditionFits, LevelFits, ShowFits, FitsWeight}
use Rattle.rising_numbers.specs.Rising.{RisesFrom}
use Rattle.ground_program.specs.Fresh.{new_atom}
use Rattle.ground_program.specs.Ground.{Ground}
use Rattle.ground_program.specs.Size.{rule_size, size}
use Rattle.ground_program.specs.declared.program.Body.{Body}
use Rattle.ground_program.specs.declared.program.Body.TheVariants.{All, Sum}
use Rattle.ground_program.specs.declared.program.Head.{Head}
use Rattle.ground_program.specs.declared.program.Head.TheVariants.{Nothing, One, Choice}
use Rattle.ground_program.specs.declared.program.Edge.{Edge}
use Rattle.ground_program.specs.declared.program.Level.{Level}
use Rattle.ground_program.specs.declared.program.Rule.{Rule}
use Rattle.ground_program.specs.declared.program.Show.{Show}
use Rattle.ground_program.proofs.FreshLaws.{new_atom-most, new_atom-positive}
use Rattle.asp_base.proofs.Each.{each-weaker}
use Rattle.rising_numbers.proofs.RisingLaws.{RisesFrom-rising, members-rising}
use Rattle.tangle_laws.proofs.PartSums.{total}
use Rattle.acyc_edges.specs.Encoding.{into_rising_nodes, nodes_of, rule_at, is_cyclic, rules_of, head_at, inner_at, node_of, node_of_atom, bodies_of, limits_of, edges_of, kept_edges, made, plain, unique, plain_names, unique_names}
use Rattle.acyc_edges.specs.declared.name.Name.{Name}
use Rattle.acyc_edges.specs.declared.name.Name.TheVariants.{Atom, Complement, Fires, Chosen, Left, Backed, NoLater, Backs}
use Rattle.acyc_edges.specs.Names.{is_new, index_by, same_name, atom_of_name}
use Rattle.ground_program.specs.Normal.{IsNormalHead, IsNormalBody, AreNormal, literals_of}
use Rattle.acyc_edges.specs.private.Pairs.{pairs}
use Rattle.acyc_edges.proofs.Encoded.{made-in}
use Rattle.acyc_edges.proofs.Inside.{in-left, in-right, in-append, in-map, map-in, flat-in, in-filter, filter-in, each-in, in-each, member-in, in-member}
use Rattle.acyc_edges.proofs.SourceLaws.{plain-are, unique-are}
use Rattle.acyc_edges.proofs.Reached.{index-rule, index-normal, index-fits}
use Rattle.acyc_edges.proofs.SizeLaws.{edge_size, inner-few, body-entries, plain-new, unique-new}
use Rattle.acyc_edges.specs.private.Sources.{Source, AreNames}
use Rattle.acyc_edges.proofs.Totals.{total-sum_by, length-part}

total-member : {A : Type 0} (f : A → ℕ) (xs : List A) (x : A) → In x xs → f x ≤ total f xs
total-member f [] x i = absurd i
total-member f (y ∷ ys) x i = ⊎_elim
    (λ e. let k : f y ≡ f x = ap f e in omega arith)
    (λ e. let k : f x ≤ total f ys = total-member f ys x e in omega arith) i

index-most : {A : Type 0} (same : A → A → Bool) (xs : List A) (x : A) → index_by same xs x ≤ length xs
index-most same [] x = omega arith
index-most same (y ∷ ys) x = go (same x y) (index-most same ys x)
  where
    go : (b : Bool) → index_by same ys x ≤ length ys → cond b 0 (suc (index_by same ys x)) ≤ suc (length ys)
    go true h = omega arith
    go false h = omega arith

nodes-into : (u : ℤ) (vs : List ℤ) → length (into_rising_nodes u vs) ≤ suc (length vs)
nodes-into u [] = omega arith
nodes-into u (v ∷ vs) = go _ _ (nodes-into u vs)
  where
    go : (l e : Bool) → length (into_rising_nodes u vs) ≤ suc (length vs) → length (cond l (u ∷ v ∷ vs) (cond e (v ∷ vs) (v ∷ into_rising_nodes u vs))) ≤ suc (suc (length vs))
    go true e h = omega arith
    go false true h = omega arith
    go false false h = omega arith

pub nodes-few : (edges : List Edge) → length (nodes_of edges) ≤ 2 * total edge_size edges
nodes-few [] = omega arith
nodes-few (edge ∷ edges) =
    let h : length (nodes_of edges) ≤ 2 * total edge_size edges = nodes-few edges in
    let k : length (into_rising_nodes edge.to (nodes_of edges)) ≤ suc (length (nodes_of edges)) = nodes-into edge.to (nodes_of edges) in
    let l : length (into_rising_nodes edge.from (into_rising_nodes edge.to (nodes_of edges))) ≤ suc (length (into_rising_nodes edge.to (nodes_of edges))) = nodes-into edge.from (into_rising_nodes edge.to (nodes_of edges)) in
    omega arith

low-priority : (k : ℕ) → k < 2 ^ 31 → IsPriority (pos k)
low-priority k h = (omega (arith, ints), omega (arith, ints))

-- ---- parts of a program that has more atoms

module _ (xs ys : List ℕ) (more : (a : ℕ) → members xs a ≡ true → members ys a ≡ true) where
  literals-more : (lits : List Literal) → LiteralsFit (Among xs) lits → LiteralsFit (Among ys) lits
  literals-more lits h = each-weaker (λ l. Among xs (atom_of l)) (λ l. Among ys (atom_of l)) (λ l k. more (atom_of l) k) lits h

  head-more : (head : Head) → IsNormalHead head → HeadFits (Among xs) head → HeadFits (Among ys) head
  head-more Nothing n h = h
  head-more (One a) n h = more a h
  head-more (Choice as_) n h = absurd n

  body-more : (body : Body) → IsNormalBody body → BodyFits (Among xs) body → BodyFits (Among ys) body
  body-more (All lits) n h = (h.0, literals-more lits h.1)
  body-more (Sum bound items) n h = absurd n

  condition-more : (lits : List Literal) → ConditionFits (Among xs) lits → ConditionFits (Among ys) lits
  condition-more lits h = (h.0, literals-more lits h.1)

  level-more : (level : Level) → LevelFits (Among xs) level → LevelFits (Among ys) level
  level-more level h = each-weaker (λ item. Among xs (atom_of item.0) × FitsWeight item.1) (λ item. Among ys (atom_of item.0) × FitsWeight item.1) (λ item k. (more (atom_of item.0) k.0, k.1)) level.items h

  show-more : (show : Show) → ShowFits (Among xs) show → ShowFits (Among ys) show
  show-more show h = (h.0, condition-more show.condition h.1)

module _ (P : Ground) (program : IsProgram P) (normal : AreNormal P.rules) (part : ℕ → ℕ) (parts : List ℕ) (rise : RisesFrom 0 parts) (names : List Name) (are : AreNames P part parts names)
    (small : size P ≤ 2 ^ 24) (few : length P.atoms + length (filter is_new names) < 2 ^ 30) where
  abbrev num : Name → ℕ
  num = atom_of_name P.atoms names

  abbrev all : List ℕ
  all = P.atoms ++ map num (filter is_new names)

  abbrev Q : Ground
  Q = made P part parts names

  -- ---- atoms

  old-there : (a : ℕ) → members P.atoms a ≡ true → members Q.atoms a ≡ true
  old-there a h = members-rising all a ∙ in-member all a (in-left P.atoms (map num (filter is_new names)) a (member-in P.atoms a h))

  new-there : (n : Name) → In n names → is_new n ≡ true → members Q.atoms (num n) ≡ true
  new-there n i h = members-rising all (num n) ∙ in-member all (num n) (in-right P.atoms (map num (filter is_new names)) (num n) (in-map num (filter is_new names) n (in-filter is_new names n i h)))

  abbrev Fits : ℕ → Type 0
  Fits a = (0 < a) × (a ≤ 2 ^ 30)

  new-fits : (n : Name) → is_new n ≡ true → Fits (num n)
  new-fits n h =
      let i : ℕ = index_by same_name (filter is_new names) n in
      let e : num n ≡ new_atom P.atoms (index_by same_name (filter is_new names) n) = cond-true (is_new n) _ _ h in
      let x : index_by same_name (filter is_new names) n ≤ length (filter is_new names) = index-most same_name (filter is_new names) n in
      let y : new_atom P.atoms (index_by same_name (filter is_new names) n) ≤ length P.atoms + index_by same_name (filter is_new names) n + 1 = new_atom-most P.atoms (index_by same_name (filter is_new names) n) in
      let z : 0 < new_atom P.atoms (index_by same_name (filter is_new names) n) = new_atom-positive P.atoms (index_by same_name (filter is_new names) n) in
      (omega arith, omega arith)

  above-low : (low : ℕ) (xs : List ℕ) (a : ℕ) → RisesFrom low xs → In a xs → low < a
  above-low low [] a r i = absurd i
  above-low low (x ∷ xs) a r i = let l : low < x = r.0 in ⊎_elim (λ e. omega arith) (λ e. let k : x < a = above-low x xs a r.1 e in omega arith) i

  all-fit : (a : ℕ) → In a all → Fits a
  all-fit a i = ⊎_elim
      (λ h. (above-low 0 P.atoms a program.atoms_rise h, each-in (λ x. x ≤ 2 ^ 30) P.atoms a program.atoms_fit h))
      (λ h. let k : (n : Name) × In n (filter is_new names) × (num n ≡ a) = map-in num (filter is_new names) a h in
      subst Fits k.2 (new-fits k.0 ((filter-in is_new names k.0 k.1).1)))
      (in-append P.atoms (map num (filter is_new names)) a i)

  -- ---- lengths

  rule-small : (i a : ℕ) → In i (rules_of P part parts a) → 1 + length (literals_of (rule_at P.rules i).body) ≤ 2 ^ 24
  rule-small i a h =
      let r : In (rule_at P.rules i) P.rules × _ = index-rule P program normal part parts i a h in
      let x : rule_size (rule_at P.rules i) ≤ total rule_size P.rules = total-member rule_size P.rules (rule_at P.rules i) r.0 in
      let y : total rule_size P.rules ≡ sum_by rule_size P.rules = total-sum_by rule_size P.rules in
      let z : length (literals_of (rule_at P.rules i).body) ≤ _ = body-entries (rule_at P.rules i).body in
      omega arith

  inner-small : (i a : ℕ) → In i (rules_of P part parts a) → 1 + length (inner_at P part parts i) ≤ 2 ^ 24
  inner-small i a h =
      let x : 1 + length (literals_of (rule_at P.rules i).body) ≤ 2 ^ 24 = rule-small i a h in
      let y : length (inner_at P part parts i) ≤ length (literals_of (rule_at P.rules i).body) = inner-few P program normal part parts rise i a h in
      omega arith

  -- ---- bodies

  abbrev Body_fits : List Literal → Type 0
  Body_fits lits = IsShort lits × LiteralsFit (Among Q.atoms) lits

  with-first : (l : Literal) (f : ℕ → Literal) (i a : ℕ) → In i (rules_of P part parts a) → members Q.atoms (atom_of l) ≡ true → ((b : ℕ) → In b (inner_at P part parts i) → members Q.atoms (atom_of (f b)) ≡ true)
      → Body_fits (l ∷ map f (inner_at P part parts i))
  with-first l f i a h m k = (
    (let x : 1 + length (inner_at P part parts i) ≤ 2 ^ 24 = inner-small i a h in
        let y : length (map f (inner_at P part parts i)) ≡ length (inner_at P part parts i) = length-map (inner_at P part parts i) f in omega arith),
    (
      m,
      in-each (λ x. Among Q.atoms (atom_of x)) (map f (inner_at P part parts i)) (λ x j.
          let q : (b : ℕ) × In b (inner_at P part parts i) × (f b ≡ x) = map-in f (inner_at P part parts i) x j in subst (λ y. members Q.atoms (atom_of y) ≡ true) q.2 (k q.0 q.1)),
    ),
  )

  few-literals : (lits : List Literal) → length lits ≤ 3 → LiteralsFit (Among Q.atoms) lits → Body_fits lits
  few-literals lits h k = (omega arith, k)

  bodies-fit : (n : Name) (lits : List Literal) → In n names → In lits (bodies_of P part parts num n) → Body_fits lits
  bodies-fit (Atom a) lits i j = ⊎_elim (λ e. subst Body_fits e (few-literals (Neg (num (Complement a)) ∷ []) (omega arith) (new-there (Complement a) (are.complement a (are.source (Atom a) i)) refl, tt))) (λ e. absurd e) j
  bodies-fit (Complement a) lits i j = ⊎_elim (λ e. subst Body_fits e (few-literals (Neg a ∷ []) (omega arith) (old-there a ((are.source (Complement a) i).0), tt))) (λ e. absurd e) j
  bodies-fit (Fires x) lits i j = ⊎_elim
      (λ e. let s : Source P part parts names (Fires x) = are.source (Fires x) i in
      subst Body_fits e (
        (let y : 1 + length (literals_of (rule_at P.rules x).body) ≤ 2 ^ 24 = rule-small x _ s.1 in omega arith),
        literals-more P.atoms Q.atoms old-there (literals_of (rule_at P.rules x).body) (all-fits (rule_at P.rules x).body ((index-normal P program normal part parts x _ s.1).1) ((index-fits P program normal part parts x _ s.1).1)),
      ))
      (λ e. absurd e) j
    where
      all-fits : (body : Body) → IsNormalBody body → BodyFits (Among P.atoms) body → LiteralsFit (Among P.atoms) (literals_of body)
      all-fits (All l) n f = f.1
      all-fits (Sum bound items) n f = absurd n
  bodies-fit (Chosen a b) lits i j = ⊎_elim
      (λ e. let s : Source P part parts names (Chosen a b) = are.source (Chosen a b) i in
      subst Body_fits e (few-literals (Pos a ∷ Pos b ∷ Neg (num (Left a b)) ∷ []) (omega arith) (old-there a s.0.0, (old-there b s.1.0, (new-there (Left a b) s.3 refl, tt)))))
      (λ e. absurd e) j
  bodies-fit (Left a b) lits i j = ⊎_elim (λ e. subst Body_fits e (few-literals (Neg (num (Chosen a b)) ∷ []) (omega arith) (new-there (Chosen a b) (are.source (Left a b) i) refl, tt))) (λ e. absurd e) j
  bodies-fit (Backed a) lits i j =
      let s : Source P part parts names (Backed a) = are.source (Backed a) i in
      let k : (x : ℕ) × In x (rules_of P part parts a) × ((Pos (num (Fires x)) ∷ map (λ b. Pos (num (Chosen a b))) (inner_at P part parts x)) ≡ lits) = map-in (λ x. Pos (num (Fires x)) ∷ map (λ b. Pos (num (Chosen a b))) (inner_at P part parts x)) (rules_of P part parts a) lits j in
      subst Body_fits k.2 (with-first (Pos (num (Fires k.0))) (λ b. Pos (num (Chosen a b))) k.0 a k.1 (new-there (Fires k.0) ((s.1 k.0 k.1).0) refl) (λ b h. new-there (Chosen a b) ((s.1 k.0 k.1).1 b h) refl))
  bodies-fit (NoLater a c) lits i j =
      let s : Source P part parts names (NoLater a c) = are.source (NoLater a c) i in
      ⊎_elim
      (λ e.
      let k : (x : ℕ) × In x (rules_of P part parts a) × ((Pos (num (Backs x)) ∷ []) ≡ lits) = map-in (λ x. Pos (num (Backs x)) ∷ []) (rules_of P part parts a) lits (subst (λ l. In lits l) (cond-true (a == c) _ _ e) j) in
      subst Body_fits k.2 (few-literals (Pos (num (Backs k.0)) ∷ []) (omega arith) (new-there (Backs k.0) ((s.3 k.0 k.1).0) refl, tt)))
      (λ e.
      let k : (x : ℕ) × In x (rules_of P part parts a) × ((Pos (num (Fires x)) ∷ map (λ b. Neg (num (NoLater c b))) (inner_at P part parts x)) ≡ lits) = map-in (λ x. Pos (num (Fires x)) ∷ map (λ b. Neg (num (NoLater c b))) (inner_at P part parts x)) (rules_of P part parts a) lits (subst (λ l. In lits l) (cond-false (a == c) _ _ e) j) in
      subst Body_fits k.2 (with-first (Pos (num (Fires k.0))) (λ b. Neg (num (NoLater c b))) k.0 a k.1 (new-there (Fires k.0) ((s.3 k.0 k.1).1) refl) (λ b h. new-there (NoLater c b) ((s.3 k.0 k.1).2 b h) refl)))
      (cases_Bool (a == c))
  bodies-fit (Backs x) lits i j = ⊎_elim
      (λ e. let s : Source P part parts names (Backs x) = are.source (Backs x) i in
      subst Body_fits e (with-first (Pos (num (Fires x))) (λ b. Neg (num (NoLater (head_at P part parts x) b))) x (head_at P part parts x) s.1 (new-there (Fires x) s.2 refl) (λ b h. new-there (NoLater (head_at P part parts x) b) (s.3 b h) refl)))
      (λ e. absurd e) j

  limits-fit : (n : Name) (lits : List Literal) → In n names → In lits (limits_of P part parts num n) → Body_fits lits
  limits-fit (Atom a) lits i j = absurd j
  limits-fit (Complement a) lits i j = absurd j
  limits-fit (Fires x) lits i j = ⊎_elim
      (λ e. let s : Source P part parts names (Fires x) = are.source (Fires x) i in
      subst Body_fits e (few-literals (Pos (num (Fires x)) ∷ Neg (head_at P part parts x) ∷ []) (omega arith) (new-there (Fires x) i refl, (old-there (head_at P part parts x) s.0.0, tt)))) (λ e. absurd e) j
  limits-fit (Chosen a b) lits i j = absurd j
  limits-fit (Left a b) lits i j = absurd j
  limits-fit (Backed a) lits i j = ⊎_elim
      (λ e. let s : Source P part parts names (Backed a) = are.source (Backed a) i in
      subst Body_fits e (few-literals (Pos a ∷ Neg (num (Backed a)) ∷ []) (omega arith) (old-there a s.0.0, (new-there (Backed a) i refl, tt)))) (λ e. absurd e) j
  limits-fit (NoLater a c) lits i j =
      let s : Source P part parts names (NoLater a c) = are.source (NoLater a c) i in
      ⊎_elim
      (λ e. let k : In lits ((Pos a ∷ Neg (num (NoLater a c)) ∷ []) ∷ []) = subst (λ l. In lits l) (cond-true (a == c) _ _ e) j in
      ⊎_elim (λ q. subst Body_fits q (few-literals (Pos a ∷ Neg (num (NoLater a c)) ∷ []) (omega arith) (old-there a s.0.0, (new-there (NoLater a c) i refl, tt)))) (λ q. absurd q) k)
      (λ e. let k : In lits [] = subst (λ l. In lits l) (cond-false (a == c) _ _ e) j in absurd k)
      (cases_Bool (a == c))
  limits-fit (Backs x) lits i j = absurd j

  head-there : (n : Name) → In n names → members Q.atoms (num n) ≡ true
  head-there (Atom a) i = old-there a ((are.source (Atom a) i).0)
  head-there (Complement a) i = new-there (Complement a) i refl
  head-there (Fires x) i = new-there (Fires x) i refl
  head-there (Chosen a b) i = new-there (Chosen a b) i refl
  head-there (Left a b) i = new-there (Left a b) i refl
  head-there (Backed a) i = new-there (Backed a) i refl
  head-there (NoLater a c) i = new-there (NoLater a c) i refl
  head-there (Backs x) i = new-there (Backs x) i refl

  rules-fit : (rule : Rule) → In rule Q.rules → RuleFits (Among Q.atoms) rule
  rules-fit rule i = ⊎_elim
      (λ k.
      let n : IsNormalHead rule.head × IsNormalBody rule.body = each-in (λ r. IsNormalHead r.head × IsNormalBody r.body) P.rules rule normal k.there in
      let f : RuleFits (Among P.atoms) rule = each-in (RuleFits (Among P.atoms)) P.rules rule program.rules k.there in
      (head-more P.atoms Q.atoms old-there rule.head n.0 f.0, body-more P.atoms Q.atoms old-there rule.body n.1 f.1))
      (λ k. ⊎_elim
      (λ h. let j : (lits : List Literal) × In lits (bodies_of P part parts num k.0) × ((record { head = One (num k.0); body = All lits }) ≡ rule) = map-in (λ lits. record { head = One (num k.0); body = All lits }) (bodies_of P part parts num k.0) rule h in
      subst (RuleFits (Among Q.atoms)) j.2 (head-there k.0 k.1, bodies-fit k.0 j.0 k.1 j.1))
      (λ h. let j : (lits : List Literal) × In lits (limits_of P part parts num k.0) × ((record { head = Nothing; body = All lits }) ≡ rule) = map-in (λ lits. record { head = Nothing; body = All lits }) (limits_of P part parts num k.0) rule h in
      subst (RuleFits (Among Q.atoms)) j.2 (tt, limits-fit k.0 j.0 k.1 j.1))
      (in-append (map (λ lits. record { head = One (num k.0); body = All lits }) (bodies_of P part parts num k.0)) (map (λ lits. record { head = Nothing; body = All lits }) (limits_of P part parts num k.0)) rule k.2))
      (made-in P program normal part parts names are rule i)

  -- ---- edges

  nodes-small : length (nodes_of P.edges) + length P.atoms ≤ 2 ^ 26
  nodes-small =
      let x : length (nodes_of P.edges) ≤ 2 * total edge_size P.edges = nodes-few P.edges in
      let y : total edge_size P.edges ≡ sum_by edge_size P.edges = total-sum_by edge_size P.edges in
      omega arith

  node-fits : (u : ℤ) → IsPriority (node_of P part parts u)
  node-fits u = low-priority _ (let x : index_by int_eq (nodes_of P.edges) u ≤ length (nodes_of P.edges) = index-most int_eq (nodes_of P.edges) u in let y : length (nodes_of P.edges) + length P.atoms ≤ 2 ^ 26 = nodes-small in omega arith)

  atom-fits : (a : ℕ) → IsPriority (node_of_atom P part parts a)
  atom-fits a = low-priority _
      (let x : index_by ◌==◌ (filter (is_cyclic P part parts) P.atoms) a ≤ length (filter (is_cyclic P part parts) P.atoms) = index-most ◌==◌ (filter (is_cyclic P part parts) P.atoms) a in
      let y : length (filter (is_cyclic P part parts) P.atoms) ≤ length P.atoms = length-part (is_cyclic P part parts) P.atoms in
      let z : length (nodes_of P.edges) + length P.atoms ≤ 2 ^ 26 = nodes-small in omega arith)

  abbrev Edge_fits : Edge → Type 0
  Edge_fits edge = ConditionFits (Among Q.atoms) edge.condition × (IsPriority edge.from × IsPriority edge.to)

  name-edges : (n : Name) (edge : Edge) → In n names → In edge (edges_of P part parts num n) → Edge_fits edge
  name-edges (Atom a) edge i j = absurd j
  name-edges (Complement a) edge i j = absurd j
  name-edges (Fires x) edge i j = absurd j
  name-edges (Chosen a b) edge i j = ⊎_elim (λ e. subst Edge_fits e (few-literals (Pos (num (Chosen a b)) ∷ []) (omega arith) (new-there (Chosen a b) i refl, tt), (atom-fits a, atom-fits b))) (λ e. absurd e) j
  name-edges (Left a b) edge i j = absurd j
  name-edges (Backed a) edge i j = absurd j
  name-edges (NoLater a c) edge i j = absurd j
  name-edges (Backs x) edge i j =
      let q : (b : ℕ) × In b (inner_at P part parts x) × ((record { from = node_of_atom P part parts (head_at P part parts x); to = node_of_atom P part parts b; condition = Pos (num (Backs x)) ∷ [] }) ≡ edge) =
      map-in (λ b. record { from = node_of_atom P part parts (head_at P part parts x); to = node_of_atom P part parts b; condition = Pos (num (Backs x)) ∷ [] }) (inner_at P part parts x) edge j in
      subst Edge_fits q.2 (few-literals (Pos (num (Backs x)) ∷ []) (omega arith) (new-there (Backs x) i refl, tt), (atom-fits (head_at P part parts x), atom-fits q.0))

  edges-fit : (edge : Edge) → In edge Q.edges → Edge_fits edge
  edges-fit edge i = ⊎_elim
      (λ h. let m : (e : Edge) × In e P.edges × ((record { from = node_of P part parts e.from; to = node_of P part parts e.to; condition = e.condition }) ≡ edge) =
      map-in (λ e. record { from = node_of P part parts e.from; to = node_of P part parts e.to; condition = e.condition }) P.edges edge h in
      subst Edge_fits m.2 (condition-more P.atoms Q.atoms old-there m.0.condition (each-in (λ e. ConditionFits (Among P.atoms) e.condition) P.edges m.0 program.edges m.1), (node-fits m.0.from, node-fits m.0.to)))
      (λ h. let f : (n : Name) × In n names × In edge (edges_of P part parts num n) = flat-in (edges_of P part parts num) names edge h in name-edges f.0 edge f.1 f.2)
      (in-append (kept_edges P part parts) (flat_map (edges_of P part parts num) names) edge i)

  pub made-is_program : IsProgram Q
  made-is_program = record {
    atoms_rise = RisesFrom-rising 0 all (in-each (λ x. 0 < x) all (λ x i. (all-fit x i).0));
    atoms_fit = in-each (λ x. x ≤ 2 ^ 30) Q.atoms (λ x i. (all-fit x (member-in all x (sym (members-rising all x) ∙ in-member Q.atoms x i))).1);
    rules = in-each (RuleFits (Among Q.atoms)) Q.rules rules-fit;
    required = literals-more P.atoms Q.atoms old-there P.required program.required;
    edges = in-each (λ edge. ConditionFits (Among Q.atoms) edge.condition) Q.edges (λ edge i. (edges-fit edge i).0);
    nodes = in-each (λ edge. IsPriority edge.from × IsPriority edge.to) Q.edges (λ edge i. (edges-fit edge i).1);
    levels = each-weaker (LevelFits (Among P.atoms)) (LevelFits (Among Q.atoms)) (λ level h. level-more P.atoms Q.atoms old-there level h) P.levels program.levels;
    priorities = program.priorities;
    priorities_fit = program.priorities_fit;
    shows = each-weaker (ShowFits (Among P.atoms)) (ShowFits (Among Q.atoms)) (λ show h. show-more P.atoms Q.atoms old-there show h) P.shows program.shows;
  }

module _ (P : Ground) (program : IsProgram P) (normal : AreNormal P.rules) (part : ℕ → ℕ) (parts : List ℕ) (rise : RisesFrom 0 parts) (small : size P ≤ 2 ^ 24) where
  pub plain-is_program : IsProgram (plain P part parts)
  plain-is_program = made-is_program P program normal part parts rise (flat_map (plain_names P part parts) parts) (plain-are P program normal part parts) small
      (let x : length (filter is_new (flat_map (plain_names P part parts) parts)) ≤ 12 * size P = plain-new P program normal part parts rise in omega arith)

  pub unique-is_program : pairs P part parts ≤ 2 ^ 24 → IsProgram (unique P part parts)
  unique-is_program few = made-is_program P program normal part parts rise (flat_map (unique_names P part parts) parts) (unique-are P program normal part parts) small
      (let x : length (filter is_new (flat_map (unique_names P part parts) parts)) ≤ 8 * (pairs P part parts + size P) = unique-new P program normal part parts rise in omega arith)
