-- The names of the two encodings are such as their theorems ask.
use Rattle.std.proofs.Common.{◌≡◌, refl, sym, ◌∙◌, ap, subst, ℕ, true, ◌==◌, List, [], ◌∷◌, ◌++◌, map, ⊎_elim, inl, inr}
use Rattle.std.specs.List.{flat_map}
use Rattle.std.proofs.lemmas.Bool.{eqb-true, eq-eqb}
use Rattle.asp_base.specs.Sets.{members, In}
use Rattle.ground_program.specs.Facts.{IsProgram}
use Rattle.ground_program.specs.Ground.{Ground}
use Rattle.ground_program.specs.Dependencies.{positives_of_body}
use Rattle.acyc_edges.specs.Encoding.{rule_at, atoms_in, rules_of, head_at, inner_at, ends_of, both_names, edge_names, plain_names, unique_names}
use Rattle.acyc_edges.specs.declared.name.Name.{Name}
use Rattle.acyc_edges.specs.declared.name.Name.TheVariants.{Atom, Complement, Fires, Chosen, Left, Backed, NoLater, Backs}
use Rattle.ground_program.specs.Normal.{AreNormal}
use Rattle.acyc_edges.proofs.Inside.{in-left, in-right, in-append, in-map, map-in, in-flat, flat-in, in-filter, filter-in, member-in, in-member}
use Rattle.acyc_edges.proofs.Reached.{index-head, inner-is}
use Rattle.acyc_edges.specs.private.Sources.{Cyc, Source, AreNames}
use Rattle.acyc_edges.proofs.Sources.{in-once, once-in}

module _ (P : Ground) (program : IsProgram P) (normal : AreNormal P.rules) (part : ℕ → ℕ) (parts : List ℕ) where
  -- the atoms of the parts are those in cyclic components
  in-cyc : (c a : ℕ) → In c parts → In a (atoms_in P part parts c) → Cyc P part parts a × (part a ≡ c)
  in-cyc c a h k =
      let j : In a P.atoms × ((part a == c) ≡ true) = filter-in (λ x. part x == c) P.atoms a k in
      let e : part a ≡ c = eqb-true (part a) c j.1 in
      ((in-member P.atoms a j.0, subst (λ x. members parts x ≡ true) (sym e) (in-member parts c h)), e)

  cyc-in : (c a : ℕ) → Cyc P part parts a → part a ≡ c → In a (atoms_in P part parts c)
  cyc-in c a s e = in-filter (λ x. part x == c) P.atoms a (member-in P.atoms a s.0) (eq-eqb (part a) c e)

  inner-cyc : (i a b : ℕ) → Cyc P part parts a → In i (rules_of P part parts a) → In b (inner_at P part parts i) → Cyc P part parts b × (part b ≡ part a)
  inner-cyc i a b s h k =
      let m : In b (positives_of_body (rule_at P.rules i).body) × (members P.atoms b ≡ true) × (part b ≡ part a) = inner-is P program normal part parts i a b h k in
      ((m.1, ap (members parts) m.2 ∙ s.1), m.2)

  fires-source : (names : List Name) (a i : ℕ) → Cyc P part parts a → In i (rules_of P part parts a) → Source P part parts names (Fires i)
  fires-source names a i s h =
      let e : head_at P part parts i ≡ a = index-head P program normal part parts i a h in
      (subst (λ x. Cyc P part parts x) (sym e) s, subst (λ x. In i (rules_of P part parts x)) (sym e) h)

  both-source : (names : List Name) (a : ℕ) (n : Name) → Cyc P part parts a → In n (both_names P part parts a) → Source P part parts names n
  both-source names a n s h = ⊎_elim (λ e. subst (λ m. Source P part parts names m) e s)
      (λ k. ⊎_elim (λ e. subst (λ m. Source P part parts names m) e s)
      (λ j. let q : (i : ℕ) × In i (rules_of P part parts a) × (Fires i ≡ n) = map-in Fires (rules_of P part parts a) n j in
      subst (λ m. Source P part parts names m) q.2 (fires-source names a q.0 s q.1)) k) h

  -- ---- the first encoding

  abbrev plain_list : List Name
  plain_list = flat_map (plain_names P part parts) parts

  plain-part : (a : ℕ) (n : Name) → Cyc P part parts a → In n (plain_names P part parts (part a)) → In n plain_list
  plain-part a n s h = in-flat (plain_names P part parts) parts (part a) n (member-in parts (part a) s.1) h

  plain-both : (a : ℕ) (n : Name) → Cyc P part parts a → In n (both_names P part parts a) → In n plain_list
  plain-both a n s h = plain-part a n s
      (in-left (flat_map (both_names P part parts) (atoms_in P part parts (part a))) _ n (in-flat (both_names P part parts) (atoms_in P part parts (part a)) a n (cyc-in (part a) a s refl) h))

  plain-edge : (a : ℕ) (n : Name) → Cyc P part parts a → In n (edge_names P part parts a) → In n plain_list
  plain-edge a n s h = plain-part a n s
      (in-right (flat_map (both_names P part parts) (atoms_in P part parts (part a))) _ n
      (in-left (flat_map (edge_names P part parts) (atoms_in P part parts (part a))) _ n (in-flat (edge_names P part parts) (atoms_in P part parts (part a)) a n (cyc-in (part a) a s refl) h)))

  pub plain-backed : (a : ℕ) → Cyc P part parts a → In (Backed a) plain_list
  plain-backed a s = plain-part a (Backed a) s
      (in-right (flat_map (both_names P part parts) (atoms_in P part parts (part a))) _ (Backed a)
      (in-right (flat_map (edge_names P part parts) (atoms_in P part parts (part a))) _ (Backed a) (in-map Backed (atoms_in P part parts (part a)) a (cyc-in (part a) a s refl))))

  plain-fires : (a i : ℕ) → Cyc P part parts a → In i (rules_of P part parts a) → In (Fires i) plain_list
  plain-fires a i s h = plain-both a (Fires i) s (inr (inr (in-map Fires (rules_of P part parts a) i h)))

  in-edge_names : (a b : ℕ) (n : Name) → In b (ends_of P part parts a) → In n (Chosen a b ∷ Left a b ∷ []) → In n (edge_names P part parts a)
  in-edge_names a b n h k = in-flat (λ x. Chosen a x ∷ Left a x ∷ []) (ends_of P part parts a) b n h k

  edge-source : (a : ℕ) (n : Name) → Cyc P part parts a → In n (edge_names P part parts a) → Source P part parts plain_list n
  edge-source a n s h =
      let q : (b : ℕ) × In b (ends_of P part parts a) × In n (Chosen a b ∷ Left a b ∷ []) = flat-in (λ b. Chosen a b ∷ Left a b ∷ []) (ends_of P part parts a) n h in
      let r : (i : ℕ) × In i (rules_of P part parts a) × In q.0 (inner_at P part parts i) = flat-in (inner_at P part parts) (rules_of P part parts a) q.0 (once-in _ q.0 q.1) in
      let t : Cyc P part parts q.0 × (part q.0 ≡ part a) = inner-cyc r.0 a q.0 s r.1 r.2 in
      ⊎_elim
      (λ e. subst (λ m. Source P part parts plain_list m) e (s, t.0, t.1, plain-edge a (Left a q.0) s (in-edge_names a q.0 (Left a q.0) q.1 (inr (inl refl)))))
      (λ k. ⊎_elim (λ e. subst (λ m. Source P part parts plain_list m) e (plain-edge a (Chosen a q.0) s (in-edge_names a q.0 (Chosen a q.0) q.1 (inl refl)))) (λ e. absurd e) k)
      q.2

  backed-source : (a : ℕ) → Cyc P part parts a → Source P part parts plain_list (Backed a)
  backed-source a s = (
    s,
    λ i h. (
      plain-fires a i s h,
      λ b k. plain-edge a (Chosen a b) s (in-edge_names a b (Chosen a b) (in-once _ b (in-flat (inner_at P part parts) (rules_of P part parts a) i b h k)) (inl refl)),
    ),
  )

  pub plain-are : AreNames P part parts plain_list
  plain-are = record {
    atom = λ a s. plain-both a (Atom a) s (inl refl);
    complement = λ a s. plain-both a (Complement a) s (inr (inl refl));
    fires = λ a i s h. plain-fires a i s h;
    source = λ n h.
        let q : (c : ℕ) × In c parts × In n (plain_names P part parts c) = flat-in (plain_names P part parts) parts n h in
        ⊎_elim
        (λ k. let r : (a : ℕ) × In a (atoms_in P part parts q.0) × In n (both_names P part parts a) = flat-in (both_names P part parts) (atoms_in P part parts q.0) n k in
        both-source plain_list r.0 n (in-cyc q.0 r.0 q.1 r.1).0 r.2)
        (λ k. ⊎_elim
        (λ j. let r : (a : ℕ) × In a (atoms_in P part parts q.0) × In n (edge_names P part parts a) = flat-in (edge_names P part parts) (atoms_in P part parts q.0) n j in
        edge-source r.0 n (in-cyc q.0 r.0 q.1 r.1).0 r.2)
        (λ j. let r : (a : ℕ) × In a (atoms_in P part parts q.0) × (Backed a ≡ n) = map-in Backed (atoms_in P part parts q.0) n j in
        subst (λ m. Source P part parts plain_list m) r.2 (backed-source r.0 (in-cyc q.0 r.0 q.1 r.1).0))
        (in-append (flat_map (edge_names P part parts) (atoms_in P part parts q.0)) (map Backed (atoms_in P part parts q.0)) n k))
        (in-append (flat_map (both_names P part parts) (atoms_in P part parts q.0)) (flat_map (edge_names P part parts) (atoms_in P part parts q.0) ++ map Backed (atoms_in P part parts q.0)) n q.2);
  }

  -- ---- the second encoding

  abbrev unique_list : List Name
  unique_list = flat_map (unique_names P part parts) parts

  abbrev pairs_at : ℕ → List Name
  pairs_at c = flat_map (λ a. map (NoLater a) (atoms_in P part parts c)) (atoms_in P part parts c)

  abbrev backs_at : ℕ → List Name
  backs_at c = flat_map (λ a. map Backs (rules_of P part parts a)) (atoms_in P part parts c)

  unique-part : (a : ℕ) (n : Name) → Cyc P part parts a → In n (unique_names P part parts (part a)) → In n unique_list
  unique-part a n s h = in-flat (unique_names P part parts) parts (part a) n (member-in parts (part a) s.1) h

  unique-both : (a : ℕ) (n : Name) → Cyc P part parts a → In n (both_names P part parts a) → In n unique_list
  unique-both a n s h = unique-part a n s
      (in-left (flat_map (both_names P part parts) (atoms_in P part parts (part a))) _ n (in-flat (both_names P part parts) (atoms_in P part parts (part a)) a n (cyc-in (part a) a s refl) h))

  unique-fires : (a i : ℕ) → Cyc P part parts a → In i (rules_of P part parts a) → In (Fires i) unique_list
  unique-fires a i s h = unique-both a (Fires i) s (inr (inr (in-map Fires (rules_of P part parts a) i h)))

  pub unique-pair : (a c : ℕ) → Cyc P part parts a → Cyc P part parts c → part c ≡ part a → In (NoLater a c) unique_list
  unique-pair a c s t e = unique-part a (NoLater a c) s
      (in-right (flat_map (both_names P part parts) (atoms_in P part parts (part a))) _ (NoLater a c)
      (in-left (pairs_at (part a)) (backs_at (part a)) (NoLater a c)
      (in-flat (λ x. map (NoLater x) (atoms_in P part parts (part a))) (atoms_in P part parts (part a)) a (NoLater a c) (cyc-in (part a) a s refl)
      (in-map (NoLater a) (atoms_in P part parts (part a)) c (cyc-in (part a) c t e)))))

  unique-backs : (a i : ℕ) → Cyc P part parts a → In i (rules_of P part parts a) → In (Backs i) unique_list
  unique-backs a i s h = unique-part a (Backs i) s
      (in-right (flat_map (both_names P part parts) (atoms_in P part parts (part a))) _ (Backs i)
      (in-right (pairs_at (part a)) (backs_at (part a)) (Backs i)
      (in-flat (λ x. map Backs (rules_of P part parts x)) (atoms_in P part parts (part a)) a (Backs i) (cyc-in (part a) a s refl) (in-map Backs (rules_of P part parts a) i h))))

  pair-source : (a c : ℕ) → Cyc P part parts a → Cyc P part parts c → part c ≡ part a → Source P part parts unique_list (NoLater a c)
  pair-source a c s t e = (
    s,
    t,
    e,
    λ i h. (
      unique-backs a i s h,
      unique-fires a i s h,
      λ b k. let q : Cyc P part parts b × (part b ≡ part a) = inner-cyc i a b s h k in unique-pair c b t q.0 (q.1 ∙ sym e),
    ),
  )

  backs-source : (a i : ℕ) → Cyc P part parts a → In i (rules_of P part parts a) → Source P part parts unique_list (Backs i)
  backs-source a i s h =
      let f : Source P part parts unique_list (Fires i) = fires-source unique_list a i s h in (
        f.0,
        f.1,
        unique-fires a i s h,
        λ b k. let q : Cyc P part parts b × (part b ≡ part (head_at P part parts i)) = inner-cyc i (head_at P part parts i) b f.0 f.1 k in
            unique-pair (head_at P part parts i) b f.0 q.0 q.1,
      )

  pub unique-are : AreNames P part parts unique_list
  unique-are = record {
    atom = λ a s. unique-both a (Atom a) s (inl refl);
    complement = λ a s. unique-both a (Complement a) s (inr (inl refl));
    fires = λ a i s h. unique-fires a i s h;
    source = λ n h.
        let q : (c : ℕ) × In c parts × In n (unique_names P part parts c) = flat-in (unique_names P part parts) parts n h in
        ⊎_elim
        (λ k. let r : (a : ℕ) × In a (atoms_in P part parts q.0) × In n (both_names P part parts a) = flat-in (both_names P part parts) (atoms_in P part parts q.0) n k in
        both-source unique_list r.0 n (in-cyc q.0 r.0 q.1 r.1).0 r.2)
        (λ k. ⊎_elim
        (λ j. let r : (a : ℕ) × In a (atoms_in P part parts q.0) × In n (map (NoLater a) (atoms_in P part parts q.0)) = flat-in (λ a. map (NoLater a) (atoms_in P part parts q.0)) (atoms_in P part parts q.0) n j in
        let p : (c : ℕ) × In c (atoms_in P part parts q.0) × (NoLater r.0 c ≡ n) = map-in (NoLater r.0) (atoms_in P part parts q.0) n r.2 in
        let x : Cyc P part parts r.0 × (part r.0 ≡ q.0) = in-cyc q.0 r.0 q.1 r.1 in
        let y : Cyc P part parts p.0 × (part p.0 ≡ q.0) = in-cyc q.0 p.0 q.1 p.1 in
        subst (λ m. Source P part parts unique_list m) p.2 (pair-source r.0 p.0 x.0 y.0 (y.1 ∙ sym x.1)))
        (λ j. let r : (a : ℕ) × In a (atoms_in P part parts q.0) × In n (map Backs (rules_of P part parts a)) = flat-in (λ a. map Backs (rules_of P part parts a)) (atoms_in P part parts q.0) n j in
        let p : (i : ℕ) × In i (rules_of P part parts r.0) × (Backs i ≡ n) = map-in Backs (rules_of P part parts r.0) n r.2 in
        subst (λ m. Source P part parts unique_list m) p.2 (backs-source r.0 p.0 (in-cyc q.0 r.0 q.1 r.1).0 p.1))
        (in-append (pairs_at q.0) (backs_at q.0) n k))
        (in-append (flat_map (both_names P part parts) (atoms_in P part parts q.0)) (pairs_at q.0 ++ backs_at q.0) n q.2);
  }
