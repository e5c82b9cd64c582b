-- The second encoding is faithful: the atoms that compare stages have one value for each stable set.
use Rattle.std.proofs.Common.{◌≡◌, refl, sym, ◌∙◌, ap, subst, ℕ, Bool, true, false, not, ◌&&◌, ◌==◌, List, [], ◌∷◌, ◌++◌, map, ⊎_elim, inl, inr}
use Rattle.std.specs.List.{list_all, flat_map}
use Rattle.std.specs.Ordering.{int_eq}
use Rattle.std.proofs.lemmas.Bool.{and_parts, and_from, true≢false, eqb-true, eq-eqb, cases_Bool, cond-true, cond-false, not-true}
use Rattle.asp_base.specs.Literal.{Pos, Neg, all_hold}
use Rattle.asp_base.specs.Sets.{Set, members, cut, Same, Within, In}
use Rattle.asp_base.specs.Walks.{Acyclic}
use Rattle.ground_program.specs.Facts.{IsProgram, Among, RuleFits}
use Rattle.ground_program.specs.Faithful.{Covers, Faithful}
use Rattle.ground_program.specs.Ground.{Ground}
use Rattle.ground_program.specs.Stable.{holds, edge_joins, Supported, Stable}
use Rattle.asp_base.proofs.Bools.{same_test}
use Rattle.ground_program.proofs.Least.{same_within}
use Rattle.ground_program.specs.Dependencies.{depends}
use Rattle.acyc_edges.specs.Encoding.{rule_at, atoms_in, rules_of, head_at, inner_at, node_of_atom, edges_of, both_names, unique_names, unique}
use Rattle.acyc_edges.specs.declared.name.Name.{Name}
use Rattle.acyc_edges.specs.declared.name.Name.TheVariants.{Atom, Complement, Fires, Chosen, Left, Backed, NoLater, Backs}
use Rattle.acyc_edges.specs.Names.{atom_of_name}
use Rattle.ground_program.specs.Normal.{AreNormal}
use Rattle.acyc_edges.specs.private.Parts.{AreParts}
use Rattle.acyc_edges.proofs.Agreeing.{holds-agree}
use Rattle.acyc_edges.proofs.Covered.{Backing, int_eq-again}
use Rattle.acyc_edges.proofs.Covering.{made-covers}
use Rattle.acyc_edges.proofs.Encoded.{HoldsName, step-cases, from-kept, says, hears, limit, fires-says, fires-hears}
use Rattle.acyc_edges.proofs.Inside.{in-append, in-any, in-flat, flat-in, in-map, map-in, in-all, all-in, each-in}
use Rattle.acyc_edges.proofs.SourceLaws.{unique-are, unique-pair}
use Rattle.acyc_edges.proofs.Reached as reached
use Rattle.acyc_edges.proofs.Reached.{Backer, inside, inside-from, inside-part, index-rule, index-head, backer-from, from-backer}
use Rattle.acyc_edges.specs.private.Sources.{Cyc, Source, AreNames}
use Rattle.acyc_edges.proofs.StageOrder.{no_later-only}
use Rattle.acyc_edges.proofs.Tight.{made-tight, stable-supported}

-- the kinds of names that stand in the second encoding
is_unique : Name → Bool
is_unique (Atom a) = true
is_unique (Complement a) = true
is_unique (Fires i) = true
is_unique (Chosen a b) = false
is_unique (Left a b) = false
is_unique (Backed a) = false
is_unique (NoLater a c) = true
is_unique (Backs i) = true

module _ (P : Ground) (program : IsProgram P) (normal : AreNormal P.rules) (part : ℕ → ℕ) (parts : List ℕ) (areparts : AreParts P.rules part parts) where
  abbrev names : List Name
  names = flat_map (unique_names P part parts) parts

  abbrev num : Name → ℕ
  num = atom_of_name P.atoms names

  abbrev Q : Ground
  Q = unique P part parts

  are : AreNames P part parts names
  are = unique-are P program normal part parts

  kinds : (n : Name) → In n names → is_unique n ≡ true
  unfolding is_unique
  kinds n h =
      let q : (c : ℕ) × In c parts × In n (unique_names P part parts c) = flat-in (unique_names P part parts) parts n h in
      ⊎_elim
      (λ k. let r : (a : ℕ) × In a (atoms_in P part parts q.0) × In n (both_names P part parts a) = flat-in (both_names P part parts) (atoms_in P part parts q.0) n k in
      ⊎_elim (λ e. ap is_unique (sym e)) (λ j. ⊎_elim (λ e. ap is_unique (sym e))
      (λ i. let m : (x : ℕ) × In x (rules_of P part parts r.0) × (Fires x ≡ n) = map-in Fires (rules_of P part parts r.0) n i in ap is_unique (sym m.2)) j) r.2)
      (λ k. ⊎_elim
      (λ j. let r : (a : ℕ) × In a (atoms_in P part parts q.0) × In n (map (NoLater a) (atoms_in P part parts q.0)) = flat-in (λ a. map (NoLater a) (atoms_in P part parts q.0)) (atoms_in P part parts q.0) n j in
      let m : (x : ℕ) × In x (atoms_in P part parts q.0) × (NoLater r.0 x ≡ n) = map-in (NoLater r.0) (atoms_in P part parts q.0) n r.2 in ap is_unique (sym m.2))
      (λ j. let r : (a : ℕ) × In a (atoms_in P part parts q.0) × In n (map Backs (rules_of P part parts a)) = flat-in (λ a. map Backs (rules_of P part parts a)) (atoms_in P part parts q.0) n j in
      let m : (x : ℕ) × In x (rules_of P part parts r.0) × (Backs x ≡ n) = map-in Backs (rules_of P part parts r.0) n r.2 in ap is_unique (sym m.2))
      (in-append (flat_map (λ a. map (NoLater a) (atoms_in P part parts q.0)) (atoms_in P part parts q.0)) (flat_map (λ a. map Backs (rules_of P part parts a)) (atoms_in P part parts q.0)) n k))
      (in-append (flat_map (both_names P part parts) (atoms_in P part parts q.0)) (flat_map (λ a. map (NoLater a) (atoms_in P part parts q.0)) (atoms_in P part parts q.0) ++ flat_map (λ a. map Backs (rules_of P part parts a)) (atoms_in P part parts q.0)) n q.2)

  module _ (M : Set) (supported : Supported Q M) where
    hold-negatives : (f : ℕ → Name) (xs : List ℕ) → all_hold (map (λ b. Neg (num (f b))) xs) M M ≡ true → (b : ℕ) → In b xs → M (num (f b)) ≡ false
    hold-negatives f [] h b i = absurd i
    hold-negatives f (x ∷ xs) h b i =
        let k : (not (M (num (f x))) ≡ true) × (all_hold (map (λ c. Neg (num (f c))) xs) M M ≡ true) = and_parts _ _ h in
        ⊎_elim (λ e. subst (λ c. M (num (f c)) ≡ false) e (not-true _ k.0)) (λ e. hold-negatives f xs k.1 b e) i

    negatives-hold : (f : ℕ → Name) (xs : List ℕ) → ((b : ℕ) → In b xs → M (num (f b)) ≡ false) → all_hold (map (λ b. Neg (num (f b))) xs) M M ≡ true
    negatives-hold f [] h = refl
    negatives-hold f (x ∷ xs) h = and_from _ _ (ap not (h x (inl refl))) (negatives-hold f xs (λ b i. h b (inr i)))

    -- the atom of a rule that backs its head
    backs-says : (i : ℕ) → In (Backs i) names → M (num (Backs i)) ≡ true
        → (M (num (Fires i)) ≡ true) × ((b : ℕ) → In b (inner_at P part parts i) → M (num (NoLater (head_at P part parts i) b)) ≡ false)
    backs-says i h e =
        let d : HoldsName P part parts names (Backs i) M M = says P program normal part parts names are M supported (Backs i) h e in
        ⊎_elim (λ q.
        let k : (M (num (Fires i)) ≡ true) × (all_hold (map (λ z. Neg (num (NoLater (head_at P part parts i) z))) (inner_at P part parts i)) M M ≡ true) = and_parts _ _ (ap (λ l. all_hold l M M) q ∙ d.holds) in
        (k.0, hold-negatives (λ z. NoLater (head_at P part parts i) z) (inner_at P part parts i) k.1)) (λ q. absurd q) d.there

    backs-hears : (i : ℕ) → In (Backs i) names → M (num (Fires i)) ≡ true → ((b : ℕ) → In b (inner_at P part parts i) → M (num (NoLater (head_at P part parts i) b)) ≡ false) → M (num (Backs i)) ≡ true
    backs-hears i h e f = hears P program normal part parts names are M supported (Backs i) h (record {
      lits = Pos (num (Fires i)) ∷ map (λ z. Neg (num (NoLater (head_at P part parts i) z))) (inner_at P part parts i);
      there = inl refl;
      holds = and_from _ _ e (negatives-hold (λ z. NoLater (head_at P part parts i) z) (inner_at P part parts i) f);
    })

    -- what the atoms of comparisons say
    pairs-says : (a c : ℕ) → In (NoLater a c) names → M (num (NoLater a c)) ≡ true → Backer P part parts M (λ b. M (num (NoLater c b)) ≡ false) a
    pairs-says a c h e =
        let s : Source P part parts names (NoLater a c) = are.source (NoLater a c) h in
        let d : HoldsName P part parts names (NoLater a c) M M = says P program normal part parts names are M supported (NoLater a c) h e in
        ⊎_elim
        (λ t.
        let j : (x : ℕ) × In x (rules_of P part parts a) × ((Pos (num (Backs x)) ∷ []) ≡ d.lits) = map-in (λ x. Pos (num (Backs x)) ∷ []) (rules_of P part parts a) d.lits (subst (λ l. In d.lits l) (cond-true (a == c) _ _ t) d.there) in
        let k : (M (num (Backs j.0)) ≡ true) × (true ≡ true) = and_parts _ _ (ap (λ l. all_hold l M M) j.2 ∙ d.holds) in
        let q : (M (num (Fires j.0)) ≡ true) × ((b : ℕ) → In b (inner_at P part parts j.0) → M (num (NoLater (head_at P part parts j.0) b)) ≡ false) = backs-says j.0 ((s.3 j.0 j.1).0) k.0 in
        record {
          index = j.0;
          there = j.1;
          body = fires-says P program normal part parts names are M supported j.0 ((s.3 j.0 j.1).1) q.0;
          each = λ b i. subst (λ y. M (num (NoLater y b)) ≡ false) (index-head P program normal part parts j.0 a j.1 ∙ eqb-true a c t) (q.1 b i);
        })
        (λ t.
        let j : (x : ℕ) × In x (rules_of P part parts a) × ((Pos (num (Fires x)) ∷ map (λ z. Neg (num (NoLater c z))) (inner_at P part parts x)) ≡ d.lits) = map-in (λ x. Pos (num (Fires x)) ∷ map (λ z. Neg (num (NoLater c z))) (inner_at P part parts x)) (rules_of P part parts a) d.lits (subst (λ l. In d.lits l) (cond-false (a == c) _ _ t) d.there) in
        let k : (M (num (Fires j.0)) ≡ true) × (all_hold (map (λ z. Neg (num (NoLater c z))) (inner_at P part parts j.0)) M M ≡ true) = and_parts _ _ (ap (λ l. all_hold l M M) j.2 ∙ d.holds) in
        record {
          index = j.0;
          there = j.1;
          body = fires-says P program normal part parts names are M supported j.0 ((s.3 j.0 j.1).1) k.0;
          each = hold-negatives (λ z. NoLater c z) (inner_at P part parts j.0) k.1;
        })
        (cases_Bool (a == c))

    pairs-hears : (a c : ℕ) → In (NoLater a c) names → Backer P part parts M (λ b. M (num (NoLater c b)) ≡ false) a → M (num (NoLater a c)) ≡ true
    pairs-hears a c h b =
        let s : Source P part parts names (NoLater a c) = are.source (NoLater a c) h in
        let f : M (num (Fires b.index)) ≡ true = fires-hears P program normal part parts names are M supported b.index ((s.3 b.index b.there).1) b.body in
        ⊎_elim
        (λ t. hears P program normal part parts names are M supported (NoLater a c) h (record {
          lits = Pos (num (Backs b.index)) ∷ [];
          there = subst (λ l. In (Pos (num (Backs b.index)) ∷ []) l) (sym (cond-true (a == c) _ _ t)) (in-map (λ x. Pos (num (Backs x)) ∷ []) (rules_of P part parts a) b.index b.there);
          holds = and_from _ _ (backs-hears b.index ((s.3 b.index b.there).0) f
              (λ z i. subst (λ y. M (num (NoLater y z)) ≡ false) (sym (index-head P program normal part parts b.index a b.there ∙ eqb-true a c t)) (b.each z i))) refl;
        }))
        (λ t. hears P program normal part parts names are M supported (NoLater a c) h (record {
          lits = Pos (num (Fires b.index)) ∷ map (λ z. Neg (num (NoLater c z))) (inner_at P part parts b.index);
          there = subst (λ l. In (Pos (num (Fires b.index)) ∷ map (λ z. Neg (num (NoLater c z))) (inner_at P part parts b.index)) l) (sym (cond-false (a == c) _ _ t))
              (in-map (λ x. Pos (num (Fires x)) ∷ map (λ z. Neg (num (NoLater c z))) (inner_at P part parts x)) (rules_of P part parts a) b.index b.there);
          holds = and_from _ _ f (negatives-hold (λ z. NoLater c z) (inner_at P part parts b.index) b.each);
        }))
        (cases_Bool (a == c))

    -- an atom that holds comes no later than itself, so one of its rules backs it, and edges lead from it to the rule's atoms
    backing : (a : ℕ) → Cyc P part parts a → M a ≡ true → Backing P part parts names M a
    backing a s m = ⊎_elim by
        (λ t. absurd (limit P program normal part parts names are M supported (NoLater a a) (Pos a ∷ Neg (num (NoLater a a)) ∷ []) here
        (subst (λ l. In (Pos a ∷ Neg (num (NoLater a a)) ∷ []) l) (sym (cond-true (a == a) _ _ (eq-eqb a a refl))) (inl refl)) (and_from _ _ m (and_from _ _ (ap not t) refl))))
        (cases_Bool (M (num (NoLater a a))))
      where
        here : In (NoLater a a) names
        here = unique-pair P program normal part parts a a s s refl

        by : M (num (NoLater a a)) ≡ true → Backing P part parts names M a
        by t =
            let source : Source P part parts names (NoLater a a) = are.source (NoLater a a) (unique-pair P program normal part parts a a s s refl) in
            let b : Backer P part parts M (λ b. M (num (NoLater a b)) ≡ false) a = pairs-says a a (unique-pair P program normal part parts a a s s refl) t in
            let e : head_at P part parts b.index ≡ a = index-head P program normal part parts b.index a b.there in
            let f : M (num (Fires b.index)) ≡ true = fires-hears P program normal part parts names are M supported b.index ((source.3 b.index b.there).1) b.body in
            let k : M (num (Backs b.index)) ≡ true = backs-hears b.index ((source.3 b.index b.there).0) f (λ z i. subst (λ y. M (num (NoLater y z)) ≡ false) (sym e) (b.each z i)) in
            record {
              index = b.index;
              there = b.there;
              body = b.body;
              edges = λ z i. in-any (λ edge. edge_joins edge M (node_of_atom P part parts a) (node_of_atom P part parts z)) (flat_map (edges_of P part parts num) names)
                  (record { from = node_of_atom P part parts (head_at P part parts b.index); to = node_of_atom P part parts z; condition = Pos (num (Backs b.index)) ∷ [] })
                  (in-flat (edges_of P part parts num) names (Backs b.index) _ ((source.3 b.index b.there).0)
                  (in-map (λ y. record { from = node_of_atom P part parts (head_at P part parts b.index); to = node_of_atom P part parts y; condition = Pos (num (Backs b.index)) ∷ [] }) (inner_at P part parts b.index) z i))
                  (and_from _ _ (subst (λ y. int_eq (node_of_atom P part parts y) (node_of_atom P part parts a) ≡ true) (sym e) (int_eq-again (node_of_atom P part parts a)))
                  (and_from _ _ (int_eq-again (node_of_atom P part parts z)) (and_from _ _ k refl)));
            }

    -- ---- what the new atoms say, by a stable set with the same old atoms

    module _ (N : Set) (stable : Stable P N) (same : (a : ℕ) → members P.atoms a ≡ true → M a ≡ N a) where
      abbrev le : ℕ → ℕ → ℕ → Bool
      le = reached.le P program normal part parts names are N stable

      body-same : (i a : ℕ) → In i (rules_of P part parts a) → holds (rule_at P.rules i).body M M ≡ holds (rule_at P.rules i).body N N
      body-same i a h = holds-agree P.atoms M N same (rule_at P.rules i).body ((each-in (RuleFits (Among P.atoms)) P.rules (rule_at P.rules i) program.rules ((index-rule P program normal part parts i a h).0)).1)

      backer-same : (Claim : ℕ → Type 0) (a : ℕ) → Backer P part parts M Claim a → Backer P part parts N Claim a
      backer-same Claim a b = record { index = b.index; there = b.there; body = sym (body-same b.index a b.there) ∙ b.body; each = b.each }

      same-backer : (Claim : ℕ → Type 0) (a : ℕ) → Backer P part parts N Claim a → Backer P part parts M Claim a
      same-backer Claim a b = record { index = b.index; there = b.there; body = body-same b.index a b.there ∙ b.body; each = b.each }

      in-names : (k a c : ℕ) → members parts k ≡ true → inside P part parts N k a ≡ true → inside P part parts N k c ≡ true → In (NoLater a c) names
      in-names k a c h s t =
          let x : (members P.atoms a ≡ true) × (part a ≡ k) = inside-part P program normal part parts k a s in
          let y : (members P.atoms c ≡ true) × (part c ≡ k) = inside-part P program normal part parts k c t in
          unique-pair P program normal part parts a c (x.0, ap (members parts) x.1 ∙ h) (y.0, ap (members parts) y.1 ∙ h) (y.1 ∙ sym x.1)

      pair-is : (a c : ℕ) → In (NoLater a c) names → M (num (NoLater a c)) ≡ le (part a) a c
      pair-is a c h =
          let s : Source P part parts names (NoLater a c) = are.source (NoLater a c) h in
          no_later-only P.rules normal (inside P part parts N (part a)) N (reached.closes P program normal part parts names are N stable) (reached.reaches P program normal part parts names are N stable)
          (λ x y. M (num (NoLater x y)))
          (λ x y i j g. pairs-hears x y (in-names (part a) x y s.0.1 i j)
          (same-backer (λ b. M (num (NoLater y b)) ≡ false) x (backer-from P program normal part parts N (λ b. M (num (NoLater y b)) ≡ false) (part a) x ((inside-part P program normal part parts (part a) x i).1) g)))
          (λ x y i j e. from-backer P program normal part parts N (λ b. M (num (NoLater y b)) ≡ false) (part a) x ((inside-part P program normal part parts (part a) x i).1)
          (backer-same (λ b. M (num (NoLater y b)) ≡ false) x (pairs-says x y (in-names (part a) x y s.0.1 i j) e)))
          a c (inside-from P program normal part parts (part a) a s.0.0 refl) (inside-from P program normal part parts (part a) c s.1.0 s.2)

      fires-is : (i : ℕ) → In (Fires i) names → M (num (Fires i)) ≡ holds (rule_at P.rules i).body N N
      fires-is i h =
          let s : Source P part parts names (Fires i) = are.source (Fires i) h in
          same_test _ _ (λ e. sym (body-same i (head_at P part parts i) s.1) ∙ fires-says P program normal part parts names are M supported i h e)
          (λ e. fires-hears P program normal part parts names are M supported i h (body-same i (head_at P part parts i) s.1 ∙ e))

      complement-is : (a : ℕ) → In (Complement a) names → M (num (Complement a)) ≡ not (N a)
      complement-is a h =
          let s : Cyc P part parts a = are.source (Complement a) h in
          same_test _ _
          (λ e. let d : HoldsName P part parts names (Complement a) M M = says P program normal part parts names are M supported (Complement a) h e in
          ⊎_elim (λ q. let k : (not (M a) ≡ true) × (true ≡ true) = and_parts _ _ (ap (λ l. all_hold l M M) q ∙ d.holds) in ap not (sym (same a s.0)) ∙ k.0) (λ q. absurd q) d.there)
          (λ e. hears P program normal part parts names are M supported (Complement a) h (record { lits = Neg a ∷ []; there = inl refl; holds = and_from _ _ (ap not (same a s.0) ∙ e) refl }))

      backs-is : (i : ℕ) → In (Backs i) names → M (num (Backs i)) ≡ reached.value P program normal part parts names are N stable (Backs i)
      backs-is i h =
          let s : Source P part parts names (Backs i) = are.source (Backs i) h in
          let a : ℕ = head_at P part parts i in
          same_test _ _
          (λ e. let q : (M (num (Fires i)) ≡ true) × ((b : ℕ) → In b (inner_at P part parts i) → M (num (NoLater (head_at P part parts i) b)) ≡ false) = backs-says i h e in
          and_from _ _ (sym (fires-is i s.2) ∙ q.0) (in-all _ (inner_at P part parts i) (λ b j. ap not (sym (pair-is (head_at P part parts i) b (s.3 b j)) ∙ q.1 b j))))
          (λ e. let q : (holds (rule_at P.rules i).body N N ≡ true) × (list_all (λ b. not (le (part (head_at P part parts i)) (head_at P part parts i) b)) (inner_at P part parts i) ≡ true) = and_parts _ _ e in
          backs-hears i h (fires-is i s.2 ∙ q.0) (λ b j. pair-is (head_at P part parts i) b (s.3 b j) ∙ not-true _ (all-in (λ b. not (le (part (head_at P part parts i)) (head_at P part parts i) b)) (inner_at P part parts i) b q.1 j)))

      -- each name says what it says of the stable set
      name-is : (n : Name) → In n names → is_unique n ≡ true → M (num n) ≡ reached.value P program normal part parts names are N stable n
      unfolding is_unique
      name-is (Atom a) h u = same a ((are.source (Atom a) h).0)
      name-is (Complement a) h u = complement-is a h
      name-is (Fires i) h u = fires-is i h
      name-is (Chosen a b) h u = absurd (true≢false (sym u))
      name-is (Left a b) h u = absurd (true≢false (sym u))
      name-is (Backed a) h u = absurd (true≢false (sym u))
      name-is (NoLater a c) h u = pair-is a c h
      name-is (Backs i) h u = backs-is i h

  pub unique-tight : Acyclic (depends (unique P part parts).rules)
  unique-tight = made-tight P program normal part parts areparts names are

  pub unique-covers : Covers P (unique P part parts)
  unique-covers = made-covers P program normal part parts areparts names are backing

  -- what one of two stable sets with the same old atoms has, the other has
  other-has : (M K : Set) → Stable (unique P part parts) M → Stable (unique P part parts) K → Same (cut P.atoms M) (cut P.atoms K) → Within M K
  other-has M K s t e z h =
      let m : Supported (unique P part parts) M = stable-supported P program normal part parts areparts names are M s in
      let k : Supported (unique P part parts) K = stable-supported P program normal part parts areparts names are K t in
      let N : Set = cut P.atoms M in
      let n : Stable P (cut P.atoms M) = unique-covers.stable M s in
      let first : (a : ℕ) → members P.atoms a ≡ true → M a ≡ cut P.atoms M a = λ a i. ap (λ b. b && M a) (sym i) in
      let second : (a : ℕ) → members P.atoms a ≡ true → K a ≡ cut P.atoms M a = λ a i. ap (λ b. b && K a) (sym i) ∙ sym (e a) in
      ⊎_elim
      (λ q. let i : members P.atoms z ≡ true = (from-kept P program normal part parts names are q.0 M M z q.1 q.2).0 in second z i ∙ (sym (first z i) ∙ h))
      (λ q. subst (λ x. K x ≡ true) q.2
      (name-is K k (cut P.atoms M) n second q.0 q.1 (kinds q.0 q.1)
      ∙ (sym (name-is M m (cut P.atoms M) n first q.0 q.1 (kinds q.0 q.1)) ∙ (ap M q.2 ∙ h))))
      (step-cases P program normal part parts names are M M z (m.step_is z ∙ h))

  pub unique-faithful : Faithful P (unique P part parts)
  unique-faithful = record {
    covers = unique-covers;
    one = λ M K s t e. same_within M K (other-has M K s t e) (other-has K M t s (λ a. sym (e a)));
  }
