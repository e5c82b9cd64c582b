-- The edges of an encoding have no cycle where the made set was reached from a stable one.
use Rattle.std.proofs.Common.{◌≡◌, refl, sym, ◌∙◌, ap, subst, ℕ, suc, ◌+◌, ◌-◌, ◌<◌, ℤ, pos, negsuc, int_lt, Bool, true, false, not, cond, ◌&&◌, ◌==◌, List, [], ◌∷◌, filter, length, get_or, ⊎_elim, inl, inr, ◌⊎◌, arith}
use Rattle.std.specs.List.{list_all, flat_map}
use Rattle.std.specs.Ordering.{int_eq}
use Rattle.std.proofs.lemmas.Bool.{and_parts, and_from, or_cases, true≢false, eqb-true, eq-eqb}
use Rattle.std.proofs.lemmas.List.Folds.{list_any-append}
use Rattle.asp_base.specs.Literal.{Pos, all_hold}
use Rattle.asp_base.specs.Sets.{Set, members, In}
use Rattle.asp_base.specs.Walks.{Acyclic}
use Rattle.ground_program.specs.Facts.{IsProgram, Among, ConditionFits}
use Rattle.ground_program.specs.Ground.{Ground}
use Rattle.ground_program.specs.Stable.{holds, joined, edge_joins, Stable}
use Rattle.ground_program.specs.declared.program.Edge.{Edge}
use Rattle.ground_program.specs.Dependencies.{positives_of_body}
use Rattle.acyc_edges.specs.Encoding.{into_rising_nodes, nodes_of, rule_at, is_cyclic, head_at, inner_at, node_of, node_of_atom, edges_of, kept_edges, made}
use Rattle.acyc_edges.specs.declared.name.Name.{Name}
use Rattle.acyc_edges.specs.declared.name.Name.TheVariants.{Atom, Complement, Fires, Chosen, Left, Backed, NoLater, Backs}
use Rattle.acyc_edges.specs.Names.{index_by, atom_of_name}
use Rattle.ground_program.specs.Normal.{AreNormal}
use Rattle.acyc_edges.proofs.Agreeing.{all_hold-agree}
use Rattle.acyc_edges.proofs.Covered.{int_eq-is, int_eq-again}
use Rattle.acyc_edges.proofs.Inside.{any-in, in-any, all-in, each-in, in-filter, member-in, map-in, flat-in}
use Rattle.acyc_edges.proofs.NameLaws.{at-index}
use Rattle.acyc_edges.proofs.Reached as reached
use Rattle.acyc_edges.proofs.Reached.{inside, inside-from, inside-part, inner-is}
use Rattle.acyc_edges.specs.private.Sources.{Cyc, Source, AreNames}
use Rattle.acyc_edges.proofs.StageOrder.{earlier, earlier-acyclic}
use Rattle.acyc_edges.proofs.Walking.{acyclic-map, acyclic-two, walk-within}

-- ---- nodes of edges

in-into : (u : ℤ) (vs : List ℤ) → In u (into_rising_nodes u vs)
in-into u [] = inl refl
in-into u (v ∷ vs) = go (int_lt u v) (int_eq u v) refl (in-into u vs)
  where
    go : (l e : Bool) → int_eq u v ≡ e → In u (into_rising_nodes u vs) → In u (cond l (u ∷ v ∷ vs) (cond e (v ∷ vs) (v ∷ into_rising_nodes u vs)))
    go true e q r = inl refl
    go false true q r = inl (sym (int_eq-is u v q))
    go false false q r = inr r

still-into : (u w : ℤ) (vs : List ℤ) → In w vs → In w (into_rising_nodes u vs)
still-into u w [] h = absurd h
still-into u w (v ∷ vs) h = go (int_lt u v) (int_eq u v) h (λ k. still-into u w vs k)
  where
    go : (l e : Bool) → (v ≡ w) ⊎ In w vs → (In w vs → In w (into_rising_nodes u vs)) → In w (cond l (u ∷ v ∷ vs) (cond e (v ∷ vs) (v ∷ into_rising_nodes u vs)))
    go true e k r = inr k
    go false true k r = k
    go false false k r = ⊎_elim (λ q. inl q) (λ q. inr (r q)) k

pub edge-nodes : (edges : List Edge) (edge : Edge) → In edge edges → In edge.from (nodes_of edges) × In edge.to (nodes_of edges)
edge-nodes [] edge h = absurd h
edge-nodes (x ∷ edges) edge h = ⊎_elim
    (λ e. (
      subst (λ y. In y.from (nodes_of (x ∷ edges))) e (in-into x.from (into_rising_nodes x.to (nodes_of edges))),
      subst (λ y. In y.to (nodes_of (x ∷ edges))) e (still-into x.from x.to _ (in-into x.to (nodes_of edges))),
    ))
    (λ e. let k : In edge.from (nodes_of edges) × In edge.to (nodes_of edges) = edge-nodes edges edge e in
    (still-into x.from edge.from _ (still-into x.to edge.from _ k.0), still-into x.from edge.to _ (still-into x.to edge.to _ k.1))) h

index-below : {A : Type 0} (same : A → A → Bool) (again : (x : A) → same x x ≡ true) (xs : List A) (x : A) → In x xs → index_by same xs x < length xs
index-below same again [] x h = absurd h
index-below same again (y ∷ ys) x h = go (same x y) refl (λ k. index-below same again ys x k)
  where
    go : (b : Bool) → same x y ≡ b → (In x ys → index_by same ys x < length ys) → cond b 0 (suc (index_by same ys x)) < suc (length ys)
    go true e rest = omega arith
    go false e rest = ⊎_elim (λ k. absurd (true≢false (sym (subst (λ z. same x z ≡ true) (sym k) (again x)) ∙ e))) (λ k. let l : index_by same ys x < length ys = rest k in omega arith) h

place_in : ℤ → ℕ
place_in (pos k) = k
place_in (negsuc k) = 0

abbrev node_at : List ℤ → ℤ → ℤ
node_at nodes (pos k) = get_or nodes k (pos 0)
node_at nodes (negsuc k) = pos 0

abbrev atom_at : List ℕ → ℕ → ℤ → ℕ
atom_at atoms count (pos k) = get_or atoms (k - count) 0
atom_at atoms count (negsuc k) = 0

module _ (P : Ground) (program : IsProgram P) (normal : AreNormal P.rules) (part : ℕ → ℕ) (parts : List ℕ) (names : List Name) (are : AreNames P part parts names)
    (N : Set) (stable : Stable P N) where
  abbrev num : Name → ℕ
  num = atom_of_name P.atoms names

  abbrev M : Set
  M = reached.M P program normal part parts names are N stable

  abbrev count : ℕ
  count = length (nodes_of P.edges)

  -- a step to an atom of the component that comes before
  abbrev comes : ℕ → ℕ → Bool
  comes a b = earlier P.rules normal (inside P part parts N (part a)) N (reached.closes P program normal part parts names are N stable) (reached.reaches P program normal part parts names are N stable) a b

  comes-acyclic : Acyclic comes
  comes-acyclic node by w =
      earlier-acyclic P.rules normal (inside P part parts N (part node)) N (reached.closes P program normal part parts names are N stable) (reached.reaches P program normal part parts names are N stable)
      node by (walk-within comes (earlier P.rules normal (inside P part parts N (part node)) N (reached.closes P program normal part parts names are N stable) (reached.reaches P program normal part parts names are N stable))
      (λ u. part u ≡ part node)
      (λ u v s h.
      let k : (N u ≡ true) × (_ ≡ true) = and_parts _ _ h in
      let j : (inside P part parts N (part u) u ≡ true) × (_ ≡ true) = and_parts _ _ k.1 in
      let i : (inside P part parts N (part u) v ≡ true) × (_ ≡ true) = and_parts _ _ j.1 in (
        subst (λ c. earlier P.rules normal (inside P part parts N c) N (reached.closes P program normal part parts names are N stable) (reached.reaches P program normal part parts names are N stable) u v ≡ true) s h,
        (inside-part P program normal part parts (part u) v i.0).1 ∙ s,
      ))
      node by node refl w)

  -- what an edge of the encoding is
  record Comes (u v : ℤ) : Type 0 where
    from : ℕ
    to : ℕ
    from_cyc : Cyc P part parts from
    to_cyc : Cyc P part parts to
    from_is : node_of_atom P part parts from ≡ u
    to_is : node_of_atom P part parts to ≡ v
    step : comes from to ≡ true

  step-from : (a b : ℕ) → Cyc P part parts a → Cyc P part parts b → part b ≡ part a → N a ≡ true → not (reached.le P program normal part parts names are N stable (part a) a b) ≡ true → comes a b ≡ true
  step-from a b s t e n l = and_from _ _ n (and_from _ _ (inside-from P program normal part parts (part a) a s.0 refl) (and_from _ _ (inside-from P program normal part parts (part a) b t.0 e) l))

  edge-comes : (n : Name) (edge : Edge) → In n names → In edge (edges_of P part parts num n) → all_hold edge.condition M M ≡ true → Comes edge.from edge.to
  edge-comes (Atom a) edge i j h = absurd j
  edge-comes (Complement a) edge i j h = absurd j
  edge-comes (Fires x) edge i j h = absurd j
  edge-comes (Chosen a b) edge i j h = ⊎_elim
      (λ e.
      let s : Source P part parts names (Chosen a b) = are.source (Chosen a b) i in
      let c : (M (num (Chosen a b)) ≡ true) × (true ≡ true) = and_parts _ _ (ap (λ x. all_hold x.condition M M) e ∙ h) in
      let v : reached.value P program normal part parts names are N stable (Chosen a b) ≡ true = sym (reached.M-name P program normal part parts names are N stable (Chosen a b) i) ∙ c.0 in
      let k : (N a ≡ true) × ((N b && not (reached.le P program normal part parts names are N stable (part a) a b)) ≡ true) = and_parts _ _ v in
      record { from = a; to = b; from_cyc = s.0; to_cyc = s.1; from_is = ap (λ x. x.from) e; to_is = ap (λ x. x.to) e; step = step-from a b s.0 s.1 s.2 k.0 ((and_parts _ _ k.1).1) })
      (λ e. absurd e) j
  edge-comes (Left a b) edge i j h = absurd j
  edge-comes (Backed a) edge i j h = absurd j
  edge-comes (NoLater a c) edge i j h = absurd j
  edge-comes (Backs x) edge i j h =
      let s : Source P part parts names (Backs x) = are.source (Backs x) i in
      let a : ℕ = head_at P part parts x in
      let q : (b : ℕ) × In b (inner_at P part parts x) × ((record { from = node_of_atom P part parts a; to = node_of_atom P part parts b; condition = Pos (num (Backs x)) ∷ [] }) ≡ edge) =
      map-in (λ b. record { from = node_of_atom P part parts (head_at P part parts x); to = node_of_atom P part parts b; condition = Pos (num (Backs x)) ∷ [] }) (inner_at P part parts x) edge j in
      let c : (M (num (Backs x)) ≡ true) × (true ≡ true) = and_parts _ _ (ap (λ y. all_hold y.condition M M) q.2 ∙ h) in
      let v : reached.value P program normal part parts names are N stable (Backs x) ≡ true = sym (reached.M-name P program normal part parts names are N stable (Backs x) i) ∙ c.0 in
      let k : (holds (rule_at P.rules x).body N N ≡ true) × (list_all (λ b. not (reached.le P program normal part parts names are N stable (part (head_at P part parts x)) (head_at P part parts x) b)) (inner_at P part parts x) ≡ true) = and_parts _ _ v in
      let m : In q.0 (positives_of_body (rule_at P.rules x).body) × (members P.atoms q.0 ≡ true) × (part q.0 ≡ part (head_at P part parts x)) = inner-is P program normal part parts x (head_at P part parts x) q.0 s.1 q.1 in
      let t : Cyc P part parts q.0 = (m.1, ap (members parts) m.2 ∙ s.0.1) in
      let n : N (head_at P part parts x) ≡ true = reached.backer-in P program normal part parts names are N stable (λ b. Unit {0}) (head_at P part parts x) (record { index = x; there = s.1; body = k.0; each = λ b y. tt }) in
      record {
        from = a;
        to = q.0;
        from_cyc = s.0;
        to_cyc = t;
        from_is = ap (λ y. y.from) q.2;
        to_is = ap (λ y. y.to) q.2;
        step = step-from (head_at P part parts x) q.0 s.0 t m.2 n (all-in (λ b. not (reached.le P program normal part parts names are N stable (part (head_at P part parts x)) (head_at P part parts x) b)) (inner_at P part parts x) q.0 k.1 q.1);
      }

  joined-comes : (u v : ℤ) → joined (flat_map (edges_of P part parts num) names) M u v ≡ true → Comes u v
  joined-comes u v h =
      let k : (edge : Edge) × In edge (flat_map (edges_of P part parts num) names) × (edge_joins edge M u v ≡ true) = any-in (λ edge. edge_joins edge M u v) (flat_map (edges_of P part parts num) names) h in
      let f : (n : Name) × In n names × In k.0 (edges_of P part parts num n) = flat-in (edges_of P part parts num) names k.0 k.1 in
      let p : (int_eq k.0.from u ≡ true) × ((int_eq k.0.to v && all_hold k.0.condition M M) ≡ true) = and_parts _ _ k.2 in
      let q : (int_eq k.0.to v ≡ true) × (all_hold k.0.condition M M ≡ true) = and_parts _ _ p.1 in
      let c : Comes k.0.from k.0.to = edge-comes f.0 k.0 f.1 f.2 q.1 in
      record { from = c.from; to = c.to; from_cyc = c.from_cyc; to_cyc = c.to_cyc; from_is = c.from_is ∙ int_eq-is k.0.from u p.0; to_is = c.to_is ∙ int_eq-is k.0.to v q.0; step = c.step }

  atom_of : ℤ → ℕ
  atom_of u = atom_at (filter (is_cyclic P part parts) P.atoms) count u

  atom-back : (a : ℕ) → Cyc P part parts a → atom_of (node_of_atom P part parts a) ≡ a
  unfolding atom_of
  atom-back a c =
      let i : ℕ = index_by ◌==◌ (filter (is_cyclic P part parts) P.atoms) a in
      let e : (count + i) - count ≡ i = omega arith in
      ap (λ k. get_or (filter (is_cyclic P part parts) P.atoms) k 0) e
      ∙ at-index ◌==◌ (λ x y h. eqb-true x y h) (λ x. eq-eqb x x refl) (filter (is_cyclic P part parts) P.atoms) a 0 (in-filter (is_cyclic P part parts) P.atoms a (member-in P.atoms a c.0) c.1)

  new-acyclic : Acyclic (joined (flat_map (edges_of P part parts num) names) M)
  new-acyclic = acyclic-map (joined (flat_map (edges_of P part parts num) names) M) comes atom_of
      (λ u v h. let c : Comes u v = joined-comes u v h in
      subst (λ x. comes x (atom_of v) ≡ true) (sym (atom-back c.from c.from_cyc) ∙ ap atom_of c.from_is)
      (subst (λ x. comes c.from x ≡ true) (sym (atom-back c.to c.to_cyc) ∙ ap atom_of c.to_is) c.step))
      comes-acyclic

  -- ---- the edges of the program

  node-back : (u : ℤ) → In u (nodes_of P.edges) → node_at (nodes_of P.edges) (node_of P part parts u) ≡ u
  node-back u h = at-index int_eq int_eq-is int_eq-again (nodes_of P.edges) u (pos 0) h

  record Renumbers (u v : ℤ) : Type 0 where
    edge : Edge
    there : In edge P.edges
    from_is : node_of P part parts edge.from ≡ u
    to_is : node_of P part parts edge.to ≡ v
    condition : all_hold edge.condition M M ≡ true

  kept-renumbers : (u v : ℤ) → joined (kept_edges P part parts) M u v ≡ true → Renumbers u v
  kept-renumbers u v h =
      let k : (edge : Edge) × In edge (kept_edges P part parts) × (edge_joins edge M u v ≡ true) = any-in (λ edge. edge_joins edge M u v) (kept_edges P part parts) h in
      let m : (edge : Edge) × In edge P.edges × ((record { from = node_of P part parts edge.from; to = node_of P part parts edge.to; condition = edge.condition }) ≡ k.0) =
      map-in (λ edge. record { from = node_of P part parts edge.from; to = node_of P part parts edge.to; condition = edge.condition }) P.edges k.0 k.1 in
      let p : (int_eq k.0.from u ≡ true) × ((int_eq k.0.to v && all_hold k.0.condition M M) ≡ true) = and_parts _ _ k.2 in
      let q : (int_eq k.0.to v ≡ true) × (all_hold k.0.condition M M ≡ true) = and_parts _ _ p.1 in
      record {
        edge = m.0;
        there = m.1;
        from_is = ap (λ x. x.from) m.2 ∙ int_eq-is k.0.from u p.0;
        to_is = ap (λ x. x.to) m.2 ∙ int_eq-is k.0.to v q.0;
        condition = ap (λ x. all_hold x.condition M M) m.2 ∙ q.1;
      }

  kept-acyclic : Acyclic (joined (kept_edges P part parts) M)
  kept-acyclic = acyclic-map (joined (kept_edges P part parts) M) (joined P.edges N) (node_at (nodes_of P.edges))
      (λ u v h.
      let r : Renumbers u v = kept-renumbers u v h in
      let n : In r.edge.from (nodes_of P.edges) × In r.edge.to (nodes_of P.edges) = edge-nodes P.edges r.edge r.there in
      let a : r.edge.from ≡ node_at (nodes_of P.edges) u = sym (node-back r.edge.from n.0) ∙ ap (node_at (nodes_of P.edges)) r.from_is in
      let b : r.edge.to ≡ node_at (nodes_of P.edges) v = sym (node-back r.edge.to n.1) ∙ ap (node_at (nodes_of P.edges)) r.to_is in
      in-any (λ edge. edge_joins edge N (node_at (nodes_of P.edges) u) (node_at (nodes_of P.edges) v)) P.edges r.edge r.there
      (and_from _ _ (subst (λ x. int_eq r.edge.from x ≡ true) a (int_eq-again r.edge.from))
      (and_from _ _ (subst (λ x. int_eq r.edge.to x ≡ true) b (int_eq-again r.edge.to))
      (sym (all_hold-agree P.atoms M N (λ x y. reached.M-old P program normal part parts names are N stable x y) r.edge.condition
      ((each-in (λ edge. ConditionFits (Among P.atoms) edge.condition) P.edges r.edge program.edges r.there).1)) ∙ r.condition))))
      stable.acyclic

  abbrev Low : ℤ → Type 0
  Low u = (k : ℕ) × (pos k ≡ u) × (k < count)

  abbrev High : ℤ → Type 0
  High u = (k : ℕ) × (pos (count + k) ≡ u)

  low : (u : ℤ) → In u (nodes_of P.edges) → (v : ℤ) → node_of P part parts u ≡ v → Low v
  low u h v e = (index_by int_eq (nodes_of P.edges) u, e, index-below int_eq int_eq-again (nodes_of P.edges) u h)

  apart : (u : ℤ) → Low u → High u → ⊥
  unfolding place_in
  apart u l h =
      let e : l.0 ≡ count + h.0 = ap place_in (l.1 ∙ sym h.1) in
      let k : l.0 < count = l.2 in
      absurd (omega arith)

  pub edges-acyclic : Acyclic (joined (made P part parts names).edges M)
  edges-acyclic = acyclic-two (joined (made P part parts names).edges M) (joined (kept_edges P part parts) M) (joined (flat_map (edges_of P part parts num) names) M) Low High
      (λ u v h. or_cases _ _ (sym (list_any-append (λ edge. edge_joins edge M u v) (kept_edges P part parts) (flat_map (edges_of P part parts num) names)) ∙ h))
      (λ u v h.
      let r : Renumbers u v = kept-renumbers u v h in
      let n : In r.edge.from (nodes_of P.edges) × In r.edge.to (nodes_of P.edges) = edge-nodes P.edges r.edge r.there in
      (low r.edge.from n.0 u r.from_is, low r.edge.to n.1 v r.to_is))
      (λ u v h.
      let c : Comes u v = joined-comes u v h in
      ((index_by ◌==◌ (filter (is_cyclic P part parts) P.atoms) c.from, c.from_is), (index_by ◌==◌ (filter (is_cyclic P part parts) P.atoms) c.to, c.to_is)))
      apart kept-acyclic new-acyclic
