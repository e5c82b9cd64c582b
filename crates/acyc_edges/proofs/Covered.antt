-- A stable set of an encoding, cut to the atoms of the program, is stable: it is supported, and a walk along rules that back
-- their heads would be a cycle of edges.
use Rattle.std.proofs.Common.{◌≡◌, refl, sym, ◌∙◌, ap, subst, ℕ, ℤ, ◌≤◌, Bool, true, false, not, ◌&&◌, ◌||◌, ◌==◌, List, map, ⊎_elim, inl, inr, ◌⊎◌, arith}
use Rattle.std.specs.List.{flat_map, AllByRecursion}
use Rattle.std.specs.Ordering.{int_eq}
use Rattle.std.proofs.lemmas.Bool.{and_parts, and_from, or_left, or_right, true≢false, eqb-true, eq-eqb, cases_Bool, cases_lt}
use Rattle.std.proofs.lemmas.Bool.Decides.{Decides-int_eq}
use Rattle.std.proofs.lemmas.List.Folds.{list_any-append}
use Rattle.asp_base.specs.Literal.{all_hold}
use Rattle.asp_base.specs.Sets.{Set, none, members, cut, In}
use Rattle.asp_base.specs.Walks.{Acyclic}
use Rattle.ground_program.specs.Closed.{Closed}
use Rattle.ground_program.specs.Facts.{IsProgram, Among, RuleFits, ConditionFits}
use Rattle.ground_program.specs.Ground.{Ground}
use Rattle.ground_program.specs.Occurrences.{atoms_of_head}
use Rattle.ground_program.specs.Stable.{holds, head_has, derives, least, is_headless, joined, edge_joins, Keeps, Supported, Stable, visible, cost}
use Rattle.ground_program.specs.declared.program.Edge.{Edge}
use Rattle.ground_program.specs.declared.program.Head.{Head}
use Rattle.ground_program.specs.declared.program.Head.TheVariants.{Nothing, One, Choice}
use Rattle.ground_program.specs.declared.program.Rule.{Rule}
use Rattle.ground_program.proofs.FactLaws.{program-weighed, step-among}
use Rattle.ground_program.proofs.Least.{grown-smallest, same_within}
use Rattle.ground_program.specs.Dependencies.{positives_of_body, depends}
use Rattle.acyc_edges.specs.Encoding.{has_head_in, rule_at, is_head, is_cyclic, rules_of, head_at, inner_at, node_of, node_of_atom, edges_of, kept_edges, made}
use Rattle.acyc_edges.specs.declared.name.Name.{Name}
use Rattle.acyc_edges.specs.Names.{atom_of_name}
use Rattle.ground_program.specs.Normal.{IsNormalHead, IsNormalBody, AreNormal}
use Rattle.acyc_edges.specs.private.Parts.{AreParts}
use Rattle.acyc_edges.proofs.Agreeing.{all_hold-agree, holds-agree, costs-agree, names-agree}
use Rattle.acyc_edges.proofs.Encoded.{StaysRule, HoldsName, name-apart, in-made-kept, step-cases, kept-step, fires-head}
use Rattle.acyc_edges.proofs.Founding.{Picks, within-least}
use Rattle.acyc_edges.proofs.Inside.{any-in, in-any, each-in, in-filter, filter-in, none-in, in-none, member-in, in-member, in-map, not-both, false-from}
use Rattle.acyc_edges.specs.private.Sources.{Cyc, AreNames}
use Rattle.acyc_edges.proofs.Sources.{rule-counted, counted-rule, in-once, has-is_head, is_head-has, is_head-atom}
use Rattle.acyc_edges.proofs.Walking.{walk-map, acyclic-map, acyclic-level, walk-within}

pub is_head-member : (head : Head) (a : ℕ) → is_head head a ≡ true → members (atoms_of_head head) a ≡ true
is_head-member Nothing a h = absurd (true≢false (sym h))
is_head-member (One b) a h = or_left (b == a) false h
is_head-member (Choice as_) a h = absurd (true≢false (sym h))

pub int_eq-is : (x y : ℤ) → int_eq x y ≡ true → x ≡ y
int_eq-is x y h = (Decides-int_eq x y).0 h

pub int_eq-again : (x : ℤ) → int_eq x x ≡ true
int_eq-again x = (Decides-int_eq x x).1 refl

-- a rule's head depends on its positive body atoms
pub rule-depends : (rules : List Rule) (rule : Rule) (a b : ℕ) → In rule rules → is_head rule.head a ≡ true → In b (positives_of_body rule.body) → depends rules a b ≡ true
rule-depends rules rule a b i h k =
    in-any (λ r. members (atoms_of_head r.head) a && members (positives_of_body r.body) b) rules rule i
    (and_from _ _ (is_head-member rule.head a h) (in-member (positives_of_body rule.body) b k))

pub head-cyclic : (S : ℕ → Bool) (head : Head) (a : ℕ) → is_head head a ≡ true → has_head_in S head ≡ S a
head-cyclic S Nothing a h = absurd (true≢false (sym h))
head-cyclic S (One b) a h = ap S (eqb-true b a h)
head-cyclic S (Choice as_) a h = absurd (true≢false (sym h))

headless-in : (S : ℕ → Bool) (head : Head) → is_headless head ≡ true → has_head_in S head ≡ false
headless-in S Nothing h = refl
headless-in S (One a) h = absurd (true≢false (sym h))
headless-in S (Choice as_) h = absurd (true≢false (sym h))

in_cut : (x y : Bool) → x ≡ true → y ≡ (x && y)
in_cut true y e = refl
in_cut false y e = absurd (true≢false (sym e))

-- a renumbered edge joins where the edge does
pub kept-joined : (P : Ground) (part : ℕ → ℕ) (parts : List ℕ) (M : Set) (edges : List Edge) → (u v : ℤ) → joined edges M u v ≡ true
    → joined (map (λ edge. record { from = node_of P part parts edge.from; to = node_of P part parts edge.to; condition = edge.condition }) edges) M (node_of P part parts u) (node_of P part parts v) ≡ true
kept-joined P part parts M edges u v h =
    let k : (edge : Edge) × In edge edges × (edge_joins edge M u v ≡ true) = any-in (λ edge. edge_joins edge M u v) edges h in
    let p : (int_eq k.0.from u ≡ true) × ((int_eq k.0.to v && all_hold k.0.condition M M) ≡ true) = and_parts _ _ k.2 in
    let q : (int_eq k.0.to v ≡ true) × (all_hold k.0.condition M M ≡ true) = and_parts _ _ p.1 in
    in-any (λ edge. edge_joins edge M (node_of P part parts u) (node_of P part parts v)) _ (record { from = node_of P part parts k.0.from; to = node_of P part parts k.0.to; condition = k.0.condition })
    (in-map (λ edge. record { from = node_of P part parts edge.from; to = node_of P part parts edge.to; condition = edge.condition }) edges k.0 k.1)
    (and_from _ _ (same_node k.0.from u p.0) (and_from _ _ (same_node k.0.to v q.0) q.1))
  where
    same_node : (x y : ℤ) → int_eq x y ≡ true → int_eq (node_of P part parts x) (node_of P part parts y) ≡ true
    same_node x y e = subst (λ z. int_eq (node_of P part parts x) (node_of P part parts z) ≡ true) (int_eq-is x y e) (int_eq-again (node_of P part parts x))

module _ (P : Ground) (part : ℕ → ℕ) (parts : List ℕ) (names : List Name) (M : Set) where
  -- an edge of the encoding joins the nodes of the atoms
  abbrev pub active : ℕ → ℕ → Bool
  active a b = joined (flat_map (edges_of P part parts (atom_of_name P.atoms names)) names) M (node_of_atom P part parts a) (node_of_atom P part parts b)

  -- a rule of the atom whose body holds, with an edge to each of its positive atoms in the component
  pub record Backing (a : ℕ) : Type 0 where
    pub index : ℕ
    pub there : In index (rules_of P part parts a)
    pub body : holds (rule_at P.rules index).body M M ≡ true
    pub edges : (b : ℕ) → In b (inner_at P part parts index) → active a b ≡ true

module _ (P : Ground) (program : IsProgram P) (normal : AreNormal P.rules) (part : ℕ → ℕ) (parts : List ℕ) (areparts : AreParts P.rules part parts)
    (names : List Name) (are : AreNames P part parts names) (M : Set) (supported : Supported (made P part parts names) M)
    (acyclic : Acyclic (joined (made P part parts names).edges M))
    (backing : (a : ℕ) → Cyc P part parts a → M a ≡ true → Backing P part parts names M a) where
  abbrev N : Set
  N = cut P.atoms M

  pub agree : (a : ℕ) → members P.atoms a ≡ true → M a ≡ N a
  agree a m = in_cut (members P.atoms a) (M a) m

  abbrev E : ℕ → ℕ → Bool
  E a b = depends P.rules a b && (not (part b == part a) || (not (is_cyclic P part parts a) || active P part parts names M a b))

  abbrev D : ℕ → ℕ → Bool
  D a b = depends P.rules a b && ((part b == part a) && (not (is_cyclic P part parts a) || active P part parts names M a b))

  active-acyclic : Acyclic (active P part parts names M)
  active-acyclic = acyclic-map (active P part parts names M) (joined (made P part parts names).edges M) (node_of_atom P part parts)
      (λ u v h. list_any-append (λ edge. edge_joins edge M (node_of_atom P part parts u) (node_of_atom P part parts v)) (kept_edges P part parts) (flat_map (edges_of P part parts (atom_of_name P.atoms names)) names) ∙ or_right _ _ h)
      acyclic

  then : (x y : Bool) → (not x || y) ≡ true → x ≡ true → y ≡ true
  then true y h e = h
  then false y h e = absurd (true≢false (sym e))

  D-acyclic : Acyclic D
  D-acyclic node by w =
      let c : is_cyclic P part parts node ≡ true = areparts.cycles node (map (λ x. x) by, walk-map D (depends P.rules) (λ x. x) (λ u v h. (and_parts _ _ h).0) node by node w) in
      active-acyclic node by (walk-within D (active P part parts names M) (λ u. is_cyclic P part parts u ≡ true)
      (λ u v s h.
      let k : ((part v == part u) ≡ true) × ((not (is_cyclic P part parts u) || active P part parts names M u v) ≡ true) = and_parts _ _ ((and_parts _ _ h).1) in
      (then _ _ k.1 s, ap (members parts) (eqb-true (part v) (part u) k.0) ∙ s))
      node by node c w)

  E-acyclic : Acyclic E
  E-acyclic = acyclic-level E D part
      (λ u v h.
      let k : (depends P.rules u v ≡ true) × ((not (part v == part u) || (not (is_cyclic P part parts u) || active P part parts names M u v)) ≡ true) = and_parts _ _ h in
      let le : part v ≤ part u = areparts.lower u v k.0 in
      ⊎_elim (λ l. inl l)
      (λ l. let e : part v ≡ part u = omega arith in inr (e, and_from _ _ k.0 (and_from _ _ (eq-eqb (part v) (part u) e) (then _ _ k.1 (eq-eqb (part v) (part u) e)))))
      (cases_lt (part v) (part u)))
      D-acyclic

  rule-agree : (rule : Rule) → In rule P.rules → holds rule.body M M ≡ holds rule.body N N
  rule-agree rule i = holds-agree P.atoms M N agree rule.body ((each-in (RuleFits (Among P.atoms)) P.rules rule program.rules i).1)

  else-true : (x y : Bool) → x ≡ false → (not x || y) ≡ true
  else-true x y e = ap (λ b. not b || y) e

  -- a rule for each atom
  picks : (a : ℕ) → N a ≡ true → Picks P.rules N E a
  picks a h =
      let k : (members P.atoms a ≡ true) × (M a ≡ true) = and_parts _ _ h in
      ⊎_elim (λ c. backed k.0 c (backing a (k.0, c) k.1)) (λ c. free k.0 c (step-cases P program normal part parts names are M M a (supported.step_is a ∙ k.1))) (cases_Bool (is_cyclic P part parts a))
    where
      backed : members P.atoms a ≡ true → is_cyclic P part parts a ≡ true → Backing P part parts names M a → Picks P.rules N E a
      backed m c b =
          let j : In b.index _ × (is_head (rule_at P.rules b.index).head a ≡ true) = filter-in (λ i. is_head (rule_at P.rules i).head a) _ b.index b.there in
          let i : In (rule_at P.rules b.index) P.rules = counted-rule P.rules b.index j.0 in
          let e : head_at P part parts b.index ≡ a = is_head-atom (rule_at P.rules b.index).head a j.1 in
          record {
            rule = rule_at P.rules b.index;
            there = i;
            head = is_head-has (rule_at P.rules b.index).head N a j.1;
            body = sym (rule-agree (rule_at P.rules b.index) i) ∙ b.body;
            steps = λ z t. and_from _ _ (rule-depends P.rules (rule_at P.rules b.index) a z i j.1 t)
                (⊎_elim (λ s. or_right _ _ (or_right _ _ (b.edges z (in-once _ z (in-filter (λ y. part y == part (head_at P part parts b.index)) _ z t (subst (λ x. (part z == part x) ≡ true) (sym e) s))))))
                (λ s. else-true (part z == part a) _ s) (cases_Bool (part z == part a)));
          }

      free : members P.atoms a ≡ true → is_cyclic P part parts a ≡ false
          → ((rule : Rule) × StaysRule P part parts rule × (derives rule M M a ≡ true)) ⊎ ((n : Name) × In n names × (atom_of_name P.atoms names n ≡ a) × HoldsName P part parts names n M M) → Picks P.rules N E a
      free m c (inl r) =
          let n : IsNormalHead r.0.head × IsNormalBody r.0.body = each-in (λ rule. IsNormalHead rule.head × IsNormalBody rule.body) P.rules r.0 normal r.1.there in
          let d : (head_has r.0.head M a ≡ true) × (holds r.0.body M M ≡ true) = and_parts _ _ r.2 in
          let j : is_head r.0.head a ≡ true = has-is_head r.0.head M a n.0 d.0 in
          record {
            rule = r.0;
            there = r.1.there;
            head = is_head-has r.0.head N a j;
            body = sym (rule-agree r.0 r.1.there) ∙ d.1;
            steps = λ z t. and_from _ _ (rule-depends P.rules r.0 a z r.1.there j t) (or_right _ _ (else-true (is_cyclic P part parts a) _ c));
          }
      free m c (inr q) = absurd (name-apart P program normal part parts names are q.0 q.1 (ap (members P.atoms) q.2 ∙ m) (ap (is_cyclic P part parts) q.2 ∙ c))

  N-closed : Closed P.rules N N
  N-closed a h =
      let m : members P.atoms a ≡ true = step-among P.atoms P.rules N N program.rules a h in
      let k : (rule : Rule) × In rule P.rules × (derives rule N N a ≡ true) = any-in (λ rule. derives rule N N a) P.rules h in
      let d : (head_has k.0.head N a ≡ true) × (holds k.0.body N N ≡ true) = and_parts _ _ k.2 in
      let n : IsNormalHead k.0.head × IsNormalBody k.0.body = each-in (λ rule. IsNormalHead rule.head × IsNormalBody rule.body) P.rules k.0 normal k.1 in
      let j : is_head k.0.head a ≡ true = has-is_head k.0.head N a n.0 d.0 in
      let b : holds k.0.body M M ≡ true = rule-agree k.0 k.1 ∙ d.1 in
      and_from _ _ m (⊎_elim
      (λ c. by_name a m c k.0 k.1 j b)
      (λ c. sym (supported.step_is a) ∙ kept-step P program normal part parts names are k.0 M M a k.1 (head-cyclic (is_cyclic P part parts) k.0.head a j ∙ c) (and_from _ _ (is_head-has k.0.head M a j) b))
      (cases_Bool (is_cyclic P part parts a)))
    where
      by_name : (a : ℕ) → members P.atoms a ≡ true → is_cyclic P part parts a ≡ true → (rule : Rule) → In rule P.rules → is_head rule.head a ≡ true → holds rule.body M M ≡ true → M a ≡ true
      by_name a m c rule i j b =
          let q : (x : ℕ) × In x _ × (rule_at P.rules x ≡ rule) = rule-counted P.rules rule i in
          let t : is_head (rule_at P.rules q.0).head a ≡ true = ap (λ r. is_head r.head a) q.2 ∙ j in
          let f : In q.0 (rules_of P part parts a) = in-filter (λ x. is_head (rule_at P.rules x).head a) _ q.0 q.1 t in
          subst (λ x. M x ≡ true) (is_head-atom (rule_at P.rules q.0).head a t)
          (fires-head P program normal part parts names are M supported q.0 (are.fires a q.0 (m, c) f) (ap (λ r. holds r.body M M) q.2 ∙ b))

  N-keeps : Keeps P N
  N-keeps = record {
    headless = in-none (λ rule. is_headless rule.head && holds rule.body N N) P.rules
        (λ rule i. false-from _ (λ h.
        let d : (is_headless rule.head ≡ true) × (holds rule.body N N ≡ true) = and_parts _ _ h in
        not-both _ (and_from _ _ d.0 (rule-agree rule i ∙ d.1))
        (none-in (λ r. is_headless r.head && holds r.body M M) (made P part parts names).rules rule supported.keeps.headless
        (in-made-kept P program normal part parts names are rule i (headless-in (is_cyclic P part parts) rule.head d.0)))));
    required = sym (all_hold-agree P.atoms M N agree P.required program.required) ∙ supported.keeps.required;
  }

  joined-back : (edges : List Edge) → AllByRecursion (λ edge. ConditionFits (Among P.atoms) edge.condition) edges → (u v : ℤ) → joined edges N u v ≡ true → joined edges M u v ≡ true
  joined-back edges f u v h =
      let k : (edge : Edge) × In edge edges × (edge_joins edge N u v ≡ true) = any-in (λ edge. edge_joins edge N u v) edges h in
      let p : (int_eq k.0.from u ≡ true) × ((int_eq k.0.to v && all_hold k.0.condition N N) ≡ true) = and_parts _ _ k.2 in
      let q : (int_eq k.0.to v ≡ true) × (all_hold k.0.condition N N ≡ true) = and_parts _ _ p.1 in
      in-any (λ edge. edge_joins edge M u v) edges k.0 k.1
      (and_from _ _ p.0 (and_from _ _ q.0 (all_hold-agree P.atoms M N agree k.0.condition ((each-in _ edges k.0 f k.1).1) ∙ q.1)))

  pub cut-stable : Stable P N
  cut-stable = record {
    least_is = same_within (least P N) N
        (grown-smallest P.rules N none N (program-weighed P program) (λ a e. absurd (true≢false (sym e))) N-closed)
        (within-least P.rules normal N P.atoms (λ a h. member-in P.atoms a ((and_parts _ _ h).0)) E E-acyclic picks);
    keeps = N-keeps;
    acyclic = acyclic-map (joined P.edges N) (joined (made P part parts names).edges M) (node_of P part parts)
        (λ u v h. list_any-append (λ edge. edge_joins edge M (node_of P part parts u) (node_of P part parts v)) (kept_edges P part parts) (flat_map (edges_of P part parts (atom_of_name P.atoms names)) names)
        ∙ or_left _ _ (kept-joined P part parts M P.edges u v (joined-back P.edges program.edges u v h)))
        acyclic;
  }

  pub cut-names : visible (made P part parts names) M ≡ visible P N
  cut-names = names-agree P.atoms M N agree P.shows program.shows

  pub cut-costs : cost (made P part parts names) M ≡ cost P N
  cut-costs = costs-agree P.atoms M N agree P.levels program.levels
