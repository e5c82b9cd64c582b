-- Each stable set of the program is the cut of a stable set of an encoding, whose edges lead to atoms that are derived before.
use Rattle.std.proofs.Common.{◌≡◌, refl, sym, ◌∙◌, ap, ap₂, subst, ℕ, Bool, true, false, not, ◌&&◌, ◌||◌, ◌==◌, List, [], ◌∷◌, map, ⊎_elim, inl, inr, ◌⊎◌}
use Rattle.std.specs.List.{list_any, list_all}
use Rattle.std.proofs.lemmas.Bool.{and_parts, and_from, or_cases, or_left, true≢false, eqb-true, eq-eqb, cases_Bool, cond-true, cond-false, not-true}
use Rattle.asp_base.specs.Literal.{Literal, Pos, Neg, literal_holds, all_hold}
use Rattle.asp_base.specs.Sets.{Set, none, members, cut, Same, Within, In}
use Rattle.ground_program.specs.Closed.{Closed}
use Rattle.ground_program.specs.Facts.{IsProgram, Among, RuleFits}
use Rattle.ground_program.specs.Ground.{Ground}
use Rattle.ground_program.specs.Stable.{holds, head_has, derives, step, grown, is_headless, Keeps, Supported, Stable}
use Rattle.ground_program.specs.declared.program.Head.TheVariants.{Nothing, One}
use Rattle.ground_program.specs.declared.program.Body.TheVariants.{All}
use Rattle.ground_program.specs.declared.program.Rule.{Rule}
use Rattle.ground_program.proofs.FactLaws.{Stable-among}
use Rattle.asp_base.proofs.Bools.{same_test}
use Rattle.ground_program.proofs.Least.{same_within}
use Rattle.ground_program.specs.Dependencies.{positives_of_body}
use Rattle.acyc_edges.specs.Encoding.{rule_at, is_head, is_cyclic, atoms_in, rules_of, head_at, inner_at, bodies_of, limits_of, made}
use Rattle.acyc_edges.specs.declared.name.Name.{Name}
use Rattle.acyc_edges.specs.declared.name.Name.TheVariants.{Atom, Complement, Fires, Chosen, Left, Backed, NoLater, Backs}
use Rattle.acyc_edges.specs.Names.{is_new, atom_of_name}
use Rattle.ground_program.specs.Normal.{IsNormalHead, IsNormalBody, AreNormal, literals_of}
use Rattle.ground_program.proofs.Negative.{Supported-from_Founded}
use Rattle.acyc_edges.proofs.Agreeing.{all_hold-agree, holds-agree}
use Rattle.acyc_edges.proofs.Covered.{head-cyclic}
use Rattle.acyc_edges.proofs.Encoded.{HoldsName, normal-holds, one, made-in, step-cases, name-step, kept-step}
use Rattle.acyc_edges.proofs.Founding.{body-positive}
use Rattle.acyc_edges.proofs.Inside.{in-append, any-in, in-any, all-in, in-all, each-in, in-filter, filter-in, none-in, in-none, member-in, in-member, in-map, map-in, not-both, false-from}
use Rattle.acyc_edges.proofs.NameLaws.{num-new}
use Rattle.acyc_edges.specs.private.Sources.{Cyc, Source, AreNames}
use Rattle.acyc_edges.proofs.Sources.{rule-counted, counted-rule, once-in, in-once, has-is_head, is_head-has, is_head-atom, body-among}
use Rattle.acyc_edges.proofs.StageOrder.{Gives, no_later, no_later-self, no_later-gives, gives-no_later}

-- ---- rules of an atom by their indices

module _ (P : Ground) (part : ℕ → ℕ) (parts : List ℕ) (N : Set) where
  -- the atoms of the component with this number
  abbrev pub inside : ℕ → Set
  inside c = members (atoms_in P part parts c)

  -- a rule of the atom whose body holds, and of whose positive atoms in the component the claim is true
  pub record Backer (Claim : ℕ → Type 0) (a : ℕ) : Type 0 where
    pub index : ℕ
    pub there : In index (rules_of P part parts a)
    pub body : holds (rule_at P.rules index).body N N ≡ true
    pub each : (b : ℕ) → In b (inner_at P part parts index) → Claim b

module _ (P : Ground) (program : IsProgram P) (normal : AreNormal P.rules) (part : ℕ → ℕ) (parts : List ℕ) where
  pub inside-from : (c a : ℕ) → members P.atoms a ≡ true → part a ≡ c → inside P part parts (λ x. true) c a ≡ true
  inside-from c a m e = in-member (atoms_in P part parts c) a (in-filter (λ x. part x == c) P.atoms a (member-in P.atoms a m) (eq-eqb (part a) c e))

  pub inside-part : (c a : ℕ) → inside P part parts (λ x. true) c a ≡ true → (members P.atoms a ≡ true) × (part a ≡ c)
  inside-part c a h = let k : In a P.atoms × ((part a == c) ≡ true) = filter-in (λ x. part x == c) P.atoms a (member-in (atoms_in P part parts c) a h) in
      (in-member P.atoms a k.0, eqb-true (part a) c k.1)

  pub index-rule : (i a : ℕ) → In i (rules_of P part parts a) → In (rule_at P.rules i) P.rules × (is_head (rule_at P.rules i).head a ≡ true)
  index-rule i a h = let k : In i _ × (is_head (rule_at P.rules i).head a ≡ true) = filter-in (λ x. is_head (rule_at P.rules x).head a) _ i h in
      (counted-rule P.rules i k.0, k.1)

  pub index-head : (i a : ℕ) → In i (rules_of P part parts a) → head_at P part parts i ≡ a
  index-head i a h = is_head-atom (rule_at P.rules i).head a ((index-rule i a h).1)

  pub index-normal : (i a : ℕ) → In i (rules_of P part parts a) → IsNormalHead (rule_at P.rules i).head × IsNormalBody (rule_at P.rules i).body
  index-normal i a h = each-in (λ rule. IsNormalHead rule.head × IsNormalBody rule.body) P.rules (rule_at P.rules i) normal ((index-rule i a h).0)

  pub index-fits : (i a : ℕ) → In i (rules_of P part parts a) → RuleFits (Among P.atoms) (rule_at P.rules i)
  index-fits i a h = each-in (RuleFits (Among P.atoms)) P.rules (rule_at P.rules i) program.rules ((index-rule i a h).0)

  -- an atom in the body of a rule of a and in its component
  pub inner-is : (i a b : ℕ) → In i (rules_of P part parts a) → In b (inner_at P part parts i) → In b (positives_of_body (rule_at P.rules i).body) × (members P.atoms b ≡ true) × (part b ≡ part a)
  inner-is i a b h k =
      let j : In b (positives_of_body (rule_at P.rules i).body) × ((part b == part (head_at P part parts i)) ≡ true) =
      filter-in (λ x. part x == part (head_at P part parts i)) (positives_of_body (rule_at P.rules i).body) b (once-in _ b k) in
      (j.0, body-among P.atoms (rule_at P.rules i).body b ((index-normal i a h).1) ((index-fits i a h).1) j.0, eqb-true (part b) (part (head_at P part parts i)) j.1 ∙ ap part (index-head i a h))

  pub is-inner : (i a b : ℕ) → In i (rules_of P part parts a) → In b (positives_of_body (rule_at P.rules i).body) → part b ≡ part a → In b (inner_at P part parts i)
  is-inner i a b h k e = in-once _ b (in-filter (λ x. part x == part (head_at P part parts i)) (positives_of_body (rule_at P.rules i).body) b k (eq-eqb (part b) (part (head_at P part parts i)) (e ∙ ap part (sym (index-head i a h)))))

  module _ (N : Set) where
    pub backer-from : (Claim : ℕ → Type 0) (c a : ℕ) → part a ≡ c → Gives P.rules (inside P part parts N c) N Claim a → Backer P part parts N Claim a
    backer-from Claim c a e g =
        let q : (x : ℕ) × In x _ × (rule_at P.rules x ≡ g.rule) = rule-counted P.rules g.rule g.there in
        let n : IsNormalHead g.rule.head × IsNormalBody g.rule.body = each-in (λ rule. IsNormalHead rule.head × IsNormalBody rule.body) P.rules g.rule normal g.there in
        let t : is_head (rule_at P.rules q.0).head a ≡ true = ap (λ r. is_head r.head a) q.2 ∙ has-is_head g.rule.head N a n.0 g.head in
        let f : In q.0 (rules_of P part parts a) = in-filter (λ x. is_head (rule_at P.rules x).head a) _ q.0 q.1 t in
        record {
          index = q.0;
          there = f;
          body = ap (λ r. holds r.body N N) q.2 ∙ g.body;
          each = λ b k. let j : In b (positives_of_body (rule_at P.rules q.0).body) × (members P.atoms b ≡ true) × (part b ≡ part a) = inner-is q.0 a b f k in
              g.each b (subst (λ r. In b (positives_of_body r.body)) q.2 j.0) (inside-from c b j.1 (j.2 ∙ e));
        }

    pub from-backer : (Claim : ℕ → Type 0) (c a : ℕ) → part a ≡ c → Backer P part parts N Claim a → Gives P.rules (inside P part parts N c) N Claim a
    from-backer Claim c a e b =
        let r : In (rule_at P.rules b.index) P.rules × (is_head (rule_at P.rules b.index).head a ≡ true) = index-rule b.index a b.there in
        record {
          rule = rule_at P.rules b.index;
          there = r.0;
          head = is_head-has (rule_at P.rules b.index).head N a r.1;
          body = b.body;
          each = λ x i s. b.each x (is-inner b.index a x b.there i ((inside-part c x s).1 ∙ sym e));
        }

module _ (P : Ground) (program : IsProgram P) (normal : AreNormal P.rules) (part : ℕ → ℕ) (parts : List ℕ) (names : List Name) (are : AreNames P part parts names)
    (N : Set) (stable : Stable P N) where
  abbrev num : Name → ℕ
  num = atom_of_name P.atoms names

  abbrev Q : Ground
  Q = made P part parts names

  pub supports : Supported P N
  supports = Supported-from_Founded P N normal (record { least_is = stable.least_is; keeps = stable.keeps })

  pub closes : Closed P.rules N N
  closes a h = sym (supports.step_is a) ∙ h

  pub reaches : Within N (grown P.rules N none)
  reaches a h = stable.least_is a ∙ h

  -- a is derived, and no later than c, in the component with this number
  abbrev pub le : ℕ → ℕ → ℕ → Bool
  le k a c = no_later P.rules normal (inside P part parts N k) N closes reaches a c

  -- ---- what each name says of the set

  abbrev pub value : Name → Bool
  value (Atom a) = N a
  value (Complement a) = not (N a)
  value (Fires i) = holds (rule_at P.rules i).body N N
  value (Chosen a b) = N a && (N b && not (le (part a) a b))
  value (Left a b) = not (N a && (N b && not (le (part a) a b)))
  value (Backed a) = N a
  value (NoLater a c) = le (part a) a c
  value (Backs i) = holds (rule_at P.rules i).body N N && list_all (λ b. not (le (part (head_at P part parts i)) (head_at P part parts i) b)) (inner_at P part parts i)

  abbrev pub M : Set
  M z = N z || list_any (λ n. is_new n && ((num n == z) && value n)) names

  or_none : (x y : Bool) → y ≡ false → (x || y) ≡ x
  or_none true y e = refl
  or_none false y e = e

  none_or : (x y : Bool) → x ≡ false → (x || y) ≡ y
  none_or true y e = absurd (true≢false e)
  none_or false y e = refl

  pub M-old : (z : ℕ) → members P.atoms z ≡ true → M z ≡ N z
  M-old z m = or_none (N z) _ (in-none (λ n. is_new n && ((num n == z) && value n)) names (λ n i. false-from _ (λ h.
      let k : (is_new n ≡ true) × (((num n == z) && value n) ≡ true) = and_parts _ _ h in
      not-both (members P.atoms z) m (ap (members P.atoms) (sym (eqb-true (num n) z ((and_parts _ _ k.1).0))) ∙ num-new P.atoms names n k.0))))

  N-within : (z : ℕ) → members P.atoms z ≡ false → N z ≡ false
  N-within z m = false-from (N z) (λ h. not-both (members P.atoms z) (Stable-among P N program stable z h) m)

  M-new : (n : Name) → In n names → is_new n ≡ true → M (num n) ≡ value n
  M-new n i e = none_or (N (num n)) _ (N-within (num n) (num-new P.atoms names n e)) ∙ same_test _ _
      (λ h.
      let k : (m : Name) × In m names × ((is_new m && ((num m == num n) && value m)) ≡ true) = any-in (λ m. is_new m && ((num m == num n) && value m)) names h in
      let d : (is_new k.0 ≡ true) × (((num k.0 == num n) && value k.0) ≡ true) = and_parts _ _ k.2 in
      let f : ((num k.0 == num n) ≡ true) × (value k.0 ≡ true) = and_parts _ _ d.1 in
      subst (λ m. value m ≡ true) (one P program normal part parts names are k.0 n k.1 i (eqb-true (num k.0) (num n) f.0)) f.1)
      (λ h. in-any (λ m. is_new m && ((num m == num n) && value m)) names n i (and_from _ _ e (and_from _ _ (eq-eqb (num n) (num n) refl) h)))

  pub M-name : (n : Name) → In n names → M (num n) ≡ value n
  M-name (Atom a) i = M-old a ((are.source (Atom a) i).0)
  M-name (Complement a) i = M-new (Complement a) i refl
  M-name (Fires x) i = M-new (Fires x) i refl
  M-name (Chosen a b) i = M-new (Chosen a b) i refl
  M-name (Left a b) i = M-new (Left a b) i refl
  M-name (Backed a) i = M-new (Backed a) i refl
  M-name (NoLater a c) i = M-new (NoLater a c) i refl
  M-name (Backs x) i = M-new (Backs x) i refl

  -- what is outside comes from a name
  M-from : (z : ℕ) → M z ≡ true → (N z ≡ true) ⊎ ((n : Name) × In n names × (num n ≡ z) × (value n ≡ true))
  M-from z h = ⊎_elim (λ e. inl e)
      (λ e.
      let k : (m : Name) × In m names × ((is_new m && ((num m == z) && value m)) ≡ true) = any-in (λ m. is_new m && ((num m == z) && value m)) names e in
      let d : (is_new k.0 ≡ true) × (((num k.0 == z) && value k.0) ≡ true) = and_parts _ _ k.2 in
      let f : ((num k.0 == z) ≡ true) × (value k.0 ≡ true) = and_parts _ _ d.1 in
      inr (k.0, k.1, eqb-true (num k.0) z f.0, f.1))
      (or_cases (N z) _ h)

  rule-agree : (rule : Rule) → In rule P.rules → holds rule.body M M ≡ holds rule.body N N
  rule-agree rule i = holds-agree P.atoms M N (λ a m. M-old a m) rule.body ((each-in (RuleFits (Among P.atoms)) P.rules rule program.rules i).1)

  -- ---- the rules of names say the same

  not-twice : (b : Bool) → not (not b) ≡ b
  not-twice true = refl
  not-twice false = refl

  -- the literals behind the first
  positives-hold : (f : ℕ → Name) (xs : List ℕ) → ((b : ℕ) → In b xs → M (num (f b)) ≡ true) → all_hold (map (λ b. Pos (num (f b))) xs) M M ≡ true
  positives-hold f [] h = refl
  positives-hold f (x ∷ xs) h = and_from _ _ (h x (inl refl)) (positives-hold f xs (λ b i. h b (inr i)))

  negatives-hold : (f : ℕ → Name) (xs : List ℕ) → ((b : ℕ) → In b xs → M (num (f b)) ≡ false) → all_hold (map (λ b. Neg (num (f b))) xs) M M ≡ true
  negatives-hold f [] h = refl
  negatives-hold f (x ∷ xs) h = and_from _ _ (ap not (h x (inl refl))) (negatives-hold f xs (λ b i. h b (inr i)))

  hold-negatives : (f : ℕ → Name) (xs : List ℕ) → all_hold (map (λ b. Neg (num (f b))) xs) M M ≡ true → (b : ℕ) → In b xs → M (num (f b)) ≡ false
  hold-negatives f [] h b i = absurd i
  hold-negatives f (x ∷ xs) h b i =
      let k : (not (M (num (f x))) ≡ true) × (all_hold (map (λ c. Neg (num (f c))) xs) M M ≡ true) = and_parts _ _ h in
      ⊎_elim (λ e. subst (λ c. M (num (f c)) ≡ false) e (not-true _ k.0)) (λ e. hold-negatives f xs k.1 b e) i

  in-part : (a : ℕ) → Cyc P part parts a → inside P part parts N (part a) a ≡ true
  in-part a c = inside-from P program normal part parts (part a) a c.0 refl

  -- a rule that fires
  fires-value : (i a : ℕ) → In i (rules_of P part parts a) → In (Fires i) names → M (num (Fires i)) ≡ holds (rule_at P.rules i).body N N
  fires-value i a h k = M-name (Fires i) k

  body-agree : (i a : ℕ) → In i (rules_of P part parts a) → all_hold (literals_of (rule_at P.rules i).body) M M ≡ holds (rule_at P.rules i).body N N
  body-agree i a h = sym (normal-holds (rule_at P.rules i).body M M ((index-normal P program normal part parts i a h).1)) ∙ rule-agree (rule_at P.rules i) ((index-rule P program normal part parts i a h).0)

  -- a rule backs its head
  backer : (a c : ℕ) → Cyc P part parts a → Cyc P part parts c → part c ≡ part a → le (part a) a c ≡ true → Backer P part parts N (λ b. le (part a) c b ≡ false) a
  backer a c s t e h = backer-from P program normal part parts N (λ b. le (part a) c b ≡ false) (part a) a refl
      (no_later-gives P.rules normal (inside P part parts N (part a)) N closes reaches a c (in-part a s) h)

  backed : (a c : ℕ) → Cyc P part parts a → Cyc P part parts c → part c ≡ part a → Backer P part parts N (λ b. le (part a) c b ≡ false) a → le (part a) a c ≡ true
  backed a c s t e b = gives-no_later P.rules normal (inside P part parts N (part a)) N closes reaches a c (in-part a s)
      (inside-from P program normal part parts (part a) c t.0 e) (from-backer P program normal part parts N (λ x. le (part a) c x ≡ false) (part a) a refl b)

  backer-self : (a : ℕ) → Cyc P part parts a → N a ≡ true → Backer P part parts N (λ b. le (part a) a b ≡ false) a
  backer-self a s h = backer a a s s refl (no_later-self P.rules normal (inside P part parts N (part a)) N closes reaches a (in-part a s) h)

  pub backer-in : (Claim : ℕ → Type 0) (a : ℕ) → Backer P part parts N Claim a → N a ≡ true
  backer-in Claim a b =
      let r : In (rule_at P.rules b.index) P.rules × (is_head (rule_at P.rules b.index).head a ≡ true) = index-rule P program normal part parts b.index a b.there in
      closes a (in-any (λ rule. derives rule N N a) P.rules (rule_at P.rules b.index) r.0 (and_from _ _ (is_head-has (rule_at P.rules b.index).head N a r.1) b.body))

  Holds : Name → Type 0
  Holds n = HoldsName P part parts names n M M

  backs-value : (i a : ℕ) → In i (rules_of P part parts a) → value (Backs i) ≡ (holds (rule_at P.rules i).body N N && list_all (λ b. not (le (part a) a b)) (inner_at P part parts i))
  backs-value i a h = ap (λ x. holds (rule_at P.rules i).body N N && list_all (λ b. not (le (part x) x b)) (inner_at P part parts i)) (index-head P program normal part parts i a h)

  value-holds : (n : Name) → In n names → value n ≡ true → HoldsName P part parts names n M M
  value-holds (Atom a) i h = record {
    lits = Neg (num (Complement a)) ∷ [];
    there = inl refl;
    holds = and_from _ _ (ap not (M-name (Complement a) (are.complement a (are.source (Atom a) i))) ∙ (not-twice (N a) ∙ h)) refl;
  }
  value-holds (Complement a) i h = record {
    lits = Neg a ∷ [];
    there = inl refl;
    holds = and_from _ _ (ap not (M-old a ((are.source (Complement a) i).0)) ∙ h) refl;
  }
  value-holds (Fires x) i h = record {
    lits = literals_of (rule_at P.rules x).body;
    there = inl refl;
    holds = body-agree x (head_at P part parts x) ((are.source (Fires x) i).1) ∙ h;
  }
  value-holds (Chosen a b) i h =
      let s : Source P part parts names (Chosen a b) = are.source (Chosen a b) i in
      let k : (N a ≡ true) × ((N b && not (le (part a) a b)) ≡ true) = and_parts _ _ h in
      record {
        lits = Pos a ∷ Pos b ∷ Neg (num (Left a b)) ∷ [];
        there = inl refl;
        holds = and_from _ _ (M-old a s.0.0 ∙ k.0) (and_from _ _ (M-old b s.1.0 ∙ (and_parts _ _ k.1).0) (and_from _ _ (ap not (M-name (Left a b) s.3) ∙ (not-twice (value (Chosen a b)) ∙ h)) refl));
      }
  value-holds (Left a b) i h = record {
    lits = Neg (num (Chosen a b)) ∷ [];
    there = inl refl;
    holds = and_from _ _ (ap not (M-name (Chosen a b) (are.source (Left a b) i)) ∙ h) refl;
  }
  value-holds (Backed a) i h =
      let s : Source P part parts names (Backed a) = are.source (Backed a) i in
      let b : Backer P part parts N (λ b. le (part a) a b ≡ false) a = backer-self a s.0 h in
      record {
        lits = Pos (num (Fires b.index)) ∷ map (λ z. Pos (num (Chosen a z))) (inner_at P part parts b.index);
        there = in-map (λ x. Pos (num (Fires x)) ∷ map (λ z. Pos (num (Chosen a z))) (inner_at P part parts x)) (rules_of P part parts a) b.index b.there;
        holds = and_from _ _ (M-name (Fires b.index) ((s.1 b.index b.there).0) ∙ b.body)
            (positives-hold (λ z. Chosen a z) (inner_at P part parts b.index) (λ z j.
            let m : In z (positives_of_body (rule_at P.rules b.index).body) × (members P.atoms z ≡ true) × (part z ≡ part a) = inner-is P program normal part parts b.index a z b.there j in
            M-name (Chosen a z) ((s.1 b.index b.there).1 z j) ∙ and_from _ _ h (and_from _ _ (body-positive (rule_at P.rules b.index).body N N z ((index-normal P program normal part parts b.index a b.there).1) b.body m.0) (ap not (b.each z j)))));
      }
  value-holds (NoLater a c) i h =
      let s : Source P part parts names (NoLater a c) = are.source (NoLater a c) i in
      let b : Backer P part parts N (λ b. le (part a) c b ≡ false) a = backer a c s.0 s.1 s.2 h in
      ⊎_elim
      (λ e. record {
        lits = Pos (num (Backs b.index)) ∷ [];
        there = subst (λ l. In (Pos (num (Backs b.index)) ∷ []) l) (sym (cond-true (a == c) _ _ e)) (in-map (λ x. Pos (num (Backs x)) ∷ []) (rules_of P part parts a) b.index b.there);
        holds = and_from _ _ (M-name (Backs b.index) ((s.3 b.index b.there).0) ∙ (backs-value b.index a b.there
            ∙ and_from _ _ b.body (in-all (λ z. not (le (part a) a z)) (inner_at P part parts b.index) (λ z j. ap not (subst (λ y. le (part a) y z ≡ false) (sym (eqb-true a c e)) (b.each z j)))))) refl;
      })
      (λ e. record {
        lits = Pos (num (Fires b.index)) ∷ map (λ z. Neg (num (NoLater c z))) (inner_at P part parts b.index);
        there = subst (λ l. In (Pos (num (Fires b.index)) ∷ map (λ z. Neg (num (NoLater c z))) (inner_at P part parts b.index)) l) (sym (cond-false (a == c) _ _ e))
            (in-map (λ x. Pos (num (Fires x)) ∷ map (λ z. Neg (num (NoLater c z))) (inner_at P part parts x)) (rules_of P part parts a) b.index b.there);
        holds = and_from _ _ (M-name (Fires b.index) ((s.3 b.index b.there).1) ∙ b.body)
            (negatives-hold (λ z. NoLater c z) (inner_at P part parts b.index) (λ z j. M-name (NoLater c z) ((s.3 b.index b.there).2 z j) ∙ subst (λ k. le k c z ≡ false) (sym s.2) (b.each z j)));
      })
      (cases_Bool (a == c))
  value-holds (Backs x) i h =
      let s : Source P part parts names (Backs x) = are.source (Backs x) i in
      let k : (holds (rule_at P.rules x).body N N ≡ true) × (list_all (λ b. not (le (part (head_at P part parts x)) (head_at P part parts x) b)) (inner_at P part parts x) ≡ true) = and_parts _ _ h in
      record {
        lits = Pos (num (Fires x)) ∷ map (λ z. Neg (num (NoLater (head_at P part parts x) z))) (inner_at P part parts x);
        there = inl refl;
        holds = and_from _ _ (M-name (Fires x) s.2 ∙ k.0)
            (negatives-hold (λ z. NoLater (head_at P part parts x) z) (inner_at P part parts x) (λ z j. M-name (NoLater (head_at P part parts x) z) (s.3 z j) ∙ not-true _ (all-in _ (inner_at P part parts x) z k.1 j)));
      }

  first-holds : (l : Literal) (lits : List Literal) (b : List Literal) → (l ∷ lits) ≡ b → all_hold b M M ≡ true → (literal_holds l M M ≡ true) × (all_hold lits M M ≡ true)
  first-holds l lits b e h = and_parts _ _ (ap (λ x. all_hold x M M) e ∙ h)

  holds-value : (n : Name) → In n names → HoldsName P part parts names n M M → value n ≡ true
  holds-value (Atom a) i b = ⊎_elim (λ e.
      let k : (not (M (num (Complement a))) ≡ true) × (true ≡ true) = first-holds (Neg (num (Complement a))) [] b.lits e b.holds in
      sym (not-twice (N a)) ∙ (sym (ap not (M-name (Complement a) (are.complement a (are.source (Atom a) i)))) ∙ k.0)) (λ e. absurd e) b.there
  holds-value (Complement a) i b = ⊎_elim (λ e.
      let k : (not (M a) ≡ true) × (true ≡ true) = first-holds (Neg a) [] b.lits e b.holds in
      sym (ap not (M-old a ((are.source (Complement a) i).0))) ∙ k.0) (λ e. absurd e) b.there
  holds-value (Fires x) i b = ⊎_elim (λ e. sym (body-agree x (head_at P part parts x) ((are.source (Fires x) i).1)) ∙ (ap (λ l. all_hold l M M) e ∙ b.holds)) (λ e. absurd e) b.there
  holds-value (Chosen a b) i d = ⊎_elim (λ e.
      let s : Source P part parts names (Chosen a b) = are.source (Chosen a b) i in
      let k : (M a ≡ true) × (all_hold (Pos b ∷ Neg (num (Left a b)) ∷ []) M M ≡ true) = first-holds (Pos a) (Pos b ∷ Neg (num (Left a b)) ∷ []) d.lits e d.holds in
      let q : (M b ≡ true) × (all_hold (Neg (num (Left a b)) ∷ []) M M ≡ true) = and_parts _ _ k.1 in
      let r : (not (M (num (Left a b))) ≡ true) × (true ≡ true) = and_parts _ _ q.1 in
      sym (not-twice (value (Chosen a b))) ∙ (sym (ap not (M-name (Left a b) s.3)) ∙ r.0)) (λ e. absurd e) d.there
  holds-value (Left a b) i d = ⊎_elim (λ e.
      let k : (not (M (num (Chosen a b))) ≡ true) × (true ≡ true) = first-holds (Neg (num (Chosen a b))) [] d.lits e d.holds in
      sym (ap not (M-name (Chosen a b) (are.source (Left a b) i))) ∙ k.0) (λ e. absurd e) d.there
  holds-value (Backed a) i d =
      let s : Source P part parts names (Backed a) = are.source (Backed a) i in
      let j : (x : ℕ) × In x (rules_of P part parts a) × ((Pos (num (Fires x)) ∷ map (λ z. Pos (num (Chosen a z))) (inner_at P part parts x)) ≡ d.lits) = map-in (λ x. Pos (num (Fires x)) ∷ map (λ z. Pos (num (Chosen a z))) (inner_at P part parts x)) (rules_of P part parts a) d.lits d.there in
      let k : (M (num (Fires j.0)) ≡ true) × (all_hold (map (λ z. Pos (num (Chosen a z))) (inner_at P part parts j.0)) M M ≡ true) = first-holds (Pos (num (Fires j.0))) _ d.lits j.2 d.holds in
      backer-in (λ b. Unit {0}) a (record { index = j.0; there = j.1; body = sym (M-name (Fires j.0) ((s.1 j.0 j.1).0)) ∙ k.0; each = λ b t. tt })
  holds-value (NoLater a c) i d =
      let s : Source P part parts names (NoLater a c) = are.source (NoLater a c) i in
      ⊎_elim
      (λ e.
      let j : (x : ℕ) × In x (rules_of P part parts a) × ((Pos (num (Backs x)) ∷ []) ≡ d.lits) = map-in (λ x. Pos (num (Backs x)) ∷ []) (rules_of P part parts a) d.lits (subst (λ l. In d.lits l) (cond-true (a == c) _ _ e) d.there) in
      let k : (M (num (Backs j.0)) ≡ true) × (true ≡ true) = first-holds (Pos (num (Backs j.0))) [] d.lits j.2 d.holds in
      let v : (holds (rule_at P.rules j.0).body N N ≡ true) × (list_all (λ b. not (le (part a) a b)) (inner_at P part parts j.0) ≡ true) = and_parts _ _ (sym (backs-value j.0 a j.1) ∙ (sym (M-name (Backs j.0) ((s.3 j.0 j.1).0)) ∙ k.0)) in
      backed a c s.0 s.1 s.2 (record { index = j.0; there = j.1; body = v.0; each = λ z t. subst (λ y. le (part a) y z ≡ false) (eqb-true a c e) (not-true _ (all-in (λ b. not (le (part a) a b)) (inner_at P part parts j.0) z v.1 t)) }))
      (λ e.
      let j : (x : ℕ) × In x (rules_of P part parts a) × ((Pos (num (Fires x)) ∷ map (λ z. Neg (num (NoLater c z))) (inner_at P part parts x)) ≡ d.lits) = map-in (λ x. Pos (num (Fires x)) ∷ map (λ z. Neg (num (NoLater c z))) (inner_at P part parts x)) (rules_of P part parts a) d.lits (subst (λ l. In d.lits l) (cond-false (a == c) _ _ e) d.there) in
      let k : (M (num (Fires j.0)) ≡ true) × (all_hold (map (λ z. Neg (num (NoLater c z))) (inner_at P part parts j.0)) M M ≡ true) = first-holds (Pos (num (Fires j.0))) _ d.lits j.2 d.holds in
      backed a c s.0 s.1 s.2 (record {
        index = j.0;
        there = j.1;
        body = sym (M-name (Fires j.0) ((s.3 j.0 j.1).1)) ∙ k.0;
        each = λ z t. subst (λ y. le y c z ≡ false) s.2 (sym (M-name (NoLater c z) ((s.3 j.0 j.1).2 z t)) ∙ hold-negatives (λ y. NoLater c y) (inner_at P part parts j.0) k.1 z t);
      }))
      (cases_Bool (a == c))
  holds-value (Backs x) i d = ⊎_elim (λ e.
      let s : Source P part parts names (Backs x) = are.source (Backs x) i in
      let k : (M (num (Fires x)) ≡ true) × (all_hold (map (λ z. Neg (num (NoLater (head_at P part parts x) z))) (inner_at P part parts x)) M M ≡ true) = first-holds (Pos (num (Fires x))) _ d.lits e d.holds in
      and_from _ _ (sym (M-name (Fires x) s.2) ∙ k.0) (in-all _ (inner_at P part parts x) (λ z t. ap not (sym (M-name (NoLater (head_at P part parts x) z) (s.3 z t)) ∙ hold-negatives (λ y. NoLater (head_at P part parts x) y) (inner_at P part parts x) k.1 z t))))
      (λ e. absurd e) d.there

  no-limit : (n : Name) (lits : List Literal) → In n names → In lits (limits_of P part parts num n) → all_hold lits M M ≡ true → ⊥
  no-limit (Atom a) lits i j h = j
  no-limit (Complement a) lits i j h = j
  no-limit (Fires x) lits i j h = ⊎_elim (λ e.
      let s : Cyc P part parts (head_at P part parts x) × In x (rules_of P part parts (head_at P part parts x)) = are.source (Fires x) i in
      let k : (M (num (Fires x)) ≡ true) × (all_hold (Neg (head_at P part parts x) ∷ []) M M ≡ true) = first-holds (Pos (num (Fires x))) (Neg (head_at P part parts x) ∷ []) lits e h in
      let q : (not (M (head_at P part parts x)) ≡ true) × (true ≡ true) = and_parts _ _ k.1 in
      let n : N (head_at P part parts x) ≡ true = backer-in (λ b. Unit {0}) (head_at P part parts x) (record { index = x; there = s.1; body = sym (M-name (Fires x) i) ∙ k.0; each = λ b t. tt }) in
      not-both (M (head_at P part parts x)) (M-old (head_at P part parts x) s.0.0 ∙ n) (not-true _ q.0)) (λ e. e) j
  no-limit (Chosen a b) lits i j h = j
  no-limit (Left a b) lits i j h = j
  no-limit (Backed a) lits i j h = ⊎_elim (λ e.
      let s : Source P part parts names (Backed a) = are.source (Backed a) i in
      let k : (M a ≡ true) × (all_hold (Neg (num (Backed a)) ∷ []) M M ≡ true) = first-holds (Pos a) (Neg (num (Backed a)) ∷ []) lits e h in
      let q : (not (M (num (Backed a))) ≡ true) × (true ≡ true) = and_parts _ _ k.1 in
      not-both (N a) (sym (M-old a s.0.0) ∙ k.0) (sym (M-name (Backed a) i) ∙ not-true _ q.0)) (λ e. e) j
  no-limit (NoLater a c) lits i j h = ⊎_elim
      (λ t. ⊎_elim (λ e.
      let s : Source P part parts names (NoLater a c) = are.source (NoLater a c) i in
      let k : (M a ≡ true) × (all_hold (Neg (num (NoLater a c)) ∷ []) M M ≡ true) = first-holds (Pos a) (Neg (num (NoLater a c)) ∷ []) lits e h in
      let q : (not (M (num (NoLater a c))) ≡ true) × (true ≡ true) = and_parts _ _ k.1 in
      not-both (le (part a) a c)
      (subst (λ y. le (part a) a y ≡ true) (eqb-true a c t) (no_later-self P.rules normal (inside P part parts N (part a)) N closes reaches a (in-part a s.0) (sym (M-old a s.0.0) ∙ k.0)))
      (sym (M-name (NoLater a c) i) ∙ not-true _ q.0)) (λ e. e)
      (let u : In lits ((Pos a ∷ Neg (num (NoLater a c)) ∷ []) ∷ []) = subst (λ l. In lits l) (cond-true (a == c) _ _ t) j in u))
      (λ t. let u : In lits [] = subst (λ l. In lits l) (cond-false (a == c) _ _ t) j in u)
      (cases_Bool (a == c))
  no-limit (Backs x) lits i j h = j

  -- ---- the made set is supported

  cyclic-name : (z : ℕ) → members P.atoms z ≡ true → is_cyclic P part parts z ≡ true → In (Atom z) names
  cyclic-name z m c = are.atom z (m, c)

  pub M-supported : Supported Q M
  M-supported = record { step_is = same_within (step Q.rules M M) M down up; keeps = keeps }
    where
      down : Within (step Q.rules M M) M
      down z h = ⊎_elim
          (λ k. let a : N z ≡ true = closes z (in-any (λ rule. derives rule N N z) P.rules k.0 k.1.there (let d : (head_has k.0.head M z ≡ true) × (holds k.0.body M M ≡ true) = and_parts _ _ k.2 in
          let n : IsNormalHead k.0.head × IsNormalBody k.0.body = each-in (λ rule. IsNormalHead rule.head × IsNormalBody rule.body) P.rules k.0 normal k.1.there in
          and_from _ _ (is_head-has k.0.head N z (has-is_head k.0.head M z n.0 d.0)) (sym (rule-agree k.0 k.1.there) ∙ d.1))) in or_left (N z) _ a)
          (λ k. subst (λ x. M x ≡ true) k.2 (M-name k.0 k.1 ∙ holds-value k.0 k.1 k.3))
          (step-cases P program normal part parts names are M M z h)

      up : Within M (step Q.rules M M)
      up z h = ⊎_elim
          (λ e. let m : members P.atoms z ≡ true = Stable-among P N program stable z e in
          ⊎_elim
          (λ c. name-step P program normal part parts names are (Atom z) M M (are.atom z (m, c)) (value-holds (Atom z) (are.atom z (m, c)) e))
          (λ c.
          let k : (rule : Rule) × In rule P.rules × (derives rule N N z ≡ true) = any-in (λ rule. derives rule N N z) P.rules (supports.step_is z ∙ e) in
          let d : (head_has k.0.head N z ≡ true) × (holds k.0.body N N ≡ true) = and_parts _ _ k.2 in
          let n : IsNormalHead k.0.head × IsNormalBody k.0.body = each-in (λ rule. IsNormalHead rule.head × IsNormalBody rule.body) P.rules k.0 normal k.1 in
          let j : is_head k.0.head z ≡ true = has-is_head k.0.head N z n.0 d.0 in
          kept-step P program normal part parts names are k.0 M M z k.1 (head-cyclic (is_cyclic P part parts) k.0.head z j ∙ c) (and_from _ _ (is_head-has k.0.head M z j) (rule-agree k.0 k.1 ∙ d.1)))
          (cases_Bool (is_cyclic P part parts z)))
          (λ k. subst (λ x. step Q.rules M M x ≡ true) k.2 (name-step P program normal part parts names are k.0 M M k.1 (value-holds k.0 k.1 k.3)))
          (M-from z h)

      keeps : Keeps Q M
      keeps = record {
        headless = in-none (λ rule. is_headless rule.head && holds rule.body M M) Q.rules (λ rule i. false-from _ (λ h.
            let d : (is_headless rule.head ≡ true) × (holds rule.body M M ≡ true) = and_parts _ _ h in
            ⊎_elim
            (λ k. not-both _ (and_from _ _ d.0 (sym (rule-agree rule k.there) ∙ d.1)) (none-in (λ r. is_headless r.head && holds r.body N N) P.rules rule stable.keeps.headless k.there))
            (λ k. ⊎_elim
            (λ t. let m : (lits : List Literal) × In lits (bodies_of P part parts num k.0) × ((record { head = One (num k.0); body = All lits }) ≡ rule) = map-in (λ lits. record { head = One (num k.0); body = All lits }) (bodies_of P part parts num k.0) rule t in
            true≢false (sym (ap (λ r. is_headless r.head) m.2 ∙ d.0)))
            (λ t. let m : (lits : List Literal) × In lits (limits_of P part parts num k.0) × ((record { head = Nothing; body = All lits }) ≡ rule) = map-in (λ lits. record { head = Nothing; body = All lits }) (limits_of P part parts num k.0) rule t in
            no-limit k.0 m.0 k.1 m.1 (ap (λ r. holds r.body M M) m.2 ∙ d.1))
            (in-append (map (λ lits. record { head = One (num k.0); body = All lits }) (bodies_of P part parts num k.0)) (map (λ lits. record { head = Nothing; body = All lits }) (limits_of P part parts num k.0)) rule k.2))
            (made-in P program normal part parts names are rule i)));
        required = all_hold-agree P.atoms M N (λ a m. M-old a m) P.required program.required ∙ stable.keeps.required;
      }

  pub M-cut : Same (cut P.atoms M) N
  M-cut a = ⊎_elim (λ m. ap₂ ◌&&◌ m (M-old a m)) (λ m. ap (λ b. b && M a) m ∙ sym (N-within a m)) (cases_Bool (members P.atoms a))
