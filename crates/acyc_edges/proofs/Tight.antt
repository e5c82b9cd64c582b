-- An encoding has no positive recursion, so each set that it supports is founded.
use Rattle.std.proofs.Common.{◌≡◌, refl, sym, ◌∙◌, ap, subst, ℕ, ◌<◌, Bool, true, false, cond, ◌&&◌, ◌||◌, ◌==◌, List, [], ◌∷◌, ◌++◌, map, ⊎_elim, inl, inr, ◌⊎◌, arith}
use Rattle.std.proofs.lemmas.Bool.{and_parts, or_cases, true≢false, eqb-true, eq-eqb, cases_Bool, cond-true, cond-false}
use Rattle.asp_base.specs.Literal.{Literal, Pos, Neg}
use Rattle.asp_base.specs.Sets.{Set, none, members, In}
use Rattle.asp_base.specs.Walks.{Acyclic}
use Rattle.ground_program.specs.Facts.{IsProgram, Among, LiteralsFit, HeadFits, BodyFits, RuleFits}
use Rattle.ground_program.specs.Ground.{Ground}
use Rattle.ground_program.specs.Occurrences.{atoms_of_head}
use Rattle.ground_program.specs.Stable.{holds, head_has, derives, least, joined, Supported, Founded, Stable}
use Rattle.ground_program.specs.declared.program.Body.{Body}
use Rattle.ground_program.specs.declared.program.Body.TheVariants.{All, Sum}
use Rattle.ground_program.specs.declared.program.Head.{Head}
use Rattle.ground_program.specs.declared.program.Head.TheVariants.{Nothing, One, Choice}
use Rattle.ground_program.specs.declared.program.Rule.{Rule}
use Rattle.ground_program.proofs.Least.{grown-smallest, same_within}
use Rattle.ground_program.specs.Dependencies.{positives_of_literals, positives_of_body, depends}
use Rattle.acyc_edges.specs.Encoding.{has_head_in, is_head, rule_at, is_cyclic, rules_of, head_at, inner_at, bodies_of, limits_of, kept_rules, made}
use Rattle.acyc_edges.specs.declared.name.Name.{Name}
use Rattle.acyc_edges.specs.declared.name.Name.TheVariants.{Atom, Complement, Fires, Chosen, Left, Backed, NoLater, Backs}
use Rattle.acyc_edges.specs.Names.{is_new, atom_of_name}
use Rattle.ground_program.specs.Normal.{IsNormalHead, IsNormalBody, AreNormal, literals_of}
use Rattle.ground_program.proofs.FactLaws.{normal-weighed}
use Rattle.ground_program.proofs.Negative.{Supported-from_Founded}
use Rattle.acyc_edges.specs.private.Parts.{AreParts}
use Rattle.acyc_edges.proofs.Covered.{rule-depends}
use Rattle.acyc_edges.proofs.Encoded.{StaysRule, one, made-in, in-kept, kept-in, step-cases, from-kept, made-rule-normal}
use Rattle.acyc_edges.proofs.Founding.{Picks, within-least}
use Rattle.acyc_edges.proofs.Inside.{in-left, in-right, in-append, any-in, in-any, in-map, map-in, each-in, in-each, filter-in, member-in, not-both}
use Rattle.acyc_edges.proofs.NameLaws.{old-name, num-new}
use Rattle.acyc_edges.specs.private.Sources.{Cyc, Source, AreNames}
use Rattle.acyc_edges.proofs.Sources.{counted-rule, has-is_head, literals-among, body-among}
use Rattle.acyc_edges.proofs.Walking.{walk-map, acyclic-level, first-step}

-- bodies of an atom's rules rest on atoms of lower levels
abbrev level_of : Name → ℕ
level_of (Atom a) = 0
level_of (Complement a) = 0
level_of (Fires i) = 1
level_of (Chosen a b) = 1
level_of (Left a b) = 1
level_of (Backed a) = 2
level_of (NoLater a c) = 3
level_of (Backs i) = 2

abbrev level_in : (Name → ℕ) → List Name → ℕ → ℕ
level_in num [] z = 0
level_in num (n ∷ names) z = cond (num n == z) (level_of n) (level_in num names z)

-- the level of a name, where no other name has its atom
level-name : (num : Name → ℕ) (names : List Name) (n : Name) → In n names → ((m : Name) → In m names → num m ≡ num n → m ≡ n) → level_in num names (num n) ≡ level_of n
level-name num [] n i h = absurd i
level-name num (m ∷ names) n i h = go (num m == num n) refl (λ k. level-name num names n k (λ x j e. h x (inr j) e))
  where
    go : (b : Bool) → (num m == num n) ≡ b → (In n names → level_in num names (num n) ≡ level_of n) → cond b (level_of m) (level_in num names (num n)) ≡ level_of n
    go true e rest = ap level_of (h m (inl refl) (eqb-true (num m) (num n) e))
    go false e rest = ⊎_elim (λ k. absurd (not-both (num m == num n) (eq-eqb (num m) (num n) (ap num k)) e)) rest i

level-none : (num : Name → ℕ) (names : List Name) (z : ℕ) → ((m : Name) → In m names → num m ≡ z → level_of m ≡ 0) → level_in num names z ≡ 0
level-none num [] z h = refl
level-none num (m ∷ names) z h = go (num m == z) refl (level-none num names z (λ x j e. h x (inr j) e))
  where
    go : (b : Bool) → (num m == z) ≡ b → level_in num names z ≡ 0 → cond b (level_of m) (level_in num names z) ≡ 0
    go true e rest = h m (inl refl) (eqb-true (num m) z e)
    go false e rest = rest

negatives-none : (f : ℕ → ℕ) (xs : List ℕ) (w : ℕ) → In w (positives_of_literals (map (λ b. Neg (f b)) xs)) → ⊥
negatives-none f [] w h = h
negatives-none f (x ∷ xs) w h = negatives-none f xs w h

positives-in : (f : ℕ → ℕ) (xs : List ℕ) (w : ℕ) → In w (positives_of_literals (map (λ b. Pos (f b)) xs)) → (b : ℕ) × In b xs × (f b ≡ w)
positives-in f [] w h = absurd h
positives-in f (x ∷ xs) w h = ⊎_elim (λ e. (x, inl refl, e)) (λ e. let k : (b : ℕ) × In b xs × (f b ≡ w) = positives-in f xs w e in (k.0, inr k.1, k.2)) h

literals-fit : (atoms : List ℕ) (body : Body) → IsNormalBody body → BodyFits (Among atoms) body → LiteralsFit (Among atoms) (literals_of body)
literals-fit atoms (All lits) n f = f.1
literals-fit atoms (Sum bound items) n f = absurd n

head-is : (head : Head) (z : ℕ) → IsNormalHead head → members (atoms_of_head head) z ≡ true → is_head head z ≡ true
head-is Nothing z n h = absurd (true≢false (sym h))
head-is (One b) z n h = ⊎_elim (λ e. e) (λ e. absurd (true≢false (sym e))) (or_cases (b == z) false h)
head-is (Choice as_) z n h = absurd n

head-among : (atoms : List ℕ) (head : Head) (z : ℕ) → is_head head z ≡ true → HeadFits (Among atoms) head → members atoms z ≡ true
head-among atoms Nothing z h f = absurd (true≢false (sym h))
head-among atoms (One b) z h f = subst (λ c. members atoms c ≡ true) (eqb-true b z h) f
head-among atoms (Choice as_) z h f = absurd (true≢false (sym h))

kept-cyclic : (S : ℕ → Bool) (head : Head) (z : ℕ) → is_head head z ≡ true → has_head_in S head ≡ false → S z ≡ false
kept-cyclic S Nothing z h k = absurd (true≢false (sym h))
kept-cyclic S (One b) z h k = subst (λ x. S x ≡ false) (eqb-true b z h) k
kept-cyclic S (Choice as_) z h k = absurd (true≢false (sym h))

module _ (P : Ground) (program : IsProgram P) (normal : AreNormal P.rules) (part : ℕ → ℕ) (parts : List ℕ) (names : List Name) (are : AreNames P part parts names) where
  pub made-normal : AreNormal (made P part parts names).rules
  made-normal = in-each _ (made P part parts names).rules (λ rule i. made-rule-normal P program normal part parts names are rule i)

module _ (P : Ground) (program : IsProgram P) (normal : AreNormal P.rules) (part : ℕ → ℕ) (parts : List ℕ) (areparts : AreParts P.rules part parts)
    (names : List Name) (are : AreNames P part parts names) where
  abbrev num : Name → ℕ
  num = atom_of_name P.atoms names

  abbrev Q : Ground
  Q = made P part parts names

  normal-made : AreNormal Q.rules
  normal-made = made-normal P program normal part parts names are

  abbrev level : ℕ → ℕ
  level = level_in num names

  level-is : (n : Name) → In n names → level (num n) ≡ level_of n
  level-is n i = level-name num names n i (λ m j e. one P program normal part parts names are m n j i e)

  level-old : (w : ℕ) → members P.atoms w ≡ true → level w ≡ 0
  level-old w m = level-none num names w (λ n i e. go n e (is_new n) refl)
    where
      go : (n : Name) → num n ≡ w → (b : Bool) → is_new n ≡ b → level_of n ≡ 0
      go n e true k = absurd (not-both (members P.atoms w) m (ap (members P.atoms) (sym e) ∙ num-new P.atoms names n k))
      go n e false k = ap level_of (old-name n k)

  below : (m : Name) (w k : ℕ) → In m names → num m ≡ w → level_of m < k → level w < k
  below m w k i e l = let s : level w ≡ level_of m = ap level (sym e) ∙ level-is m i in omega arith

  below-old : (w k : ℕ) → members P.atoms w ≡ true → 0 < k → level w < k
  below-old w k m l = let s : level w ≡ 0 = level-old w m in omega arith

  index-normal : (i a : ℕ) → In i (rules_of P part parts a) → IsNormalBody (rule_at P.rules i).body
  index-normal i a h = (each-in (λ rule. IsNormalHead rule.head × IsNormalBody rule.body) P.rules (rule_at P.rules i) normal (counted-rule P.rules i ((filter-in _ _ i h).0))).1

  index-fits : (i a : ℕ) → In i (rules_of P part parts a) → BodyFits (Among P.atoms) (rule_at P.rules i).body
  index-fits i a h = (each-in (RuleFits (Among P.atoms)) P.rules (rule_at P.rules i) program.rules (counted-rule P.rules i ((filter-in _ _ i h).0))).1

  -- the positive atoms of a name's bodies are lower
  falls : (n : Name) (lits : List Literal) (w : ℕ) → In n names → In lits (bodies_of P part parts num n) → In w (positives_of_literals lits) → level w < level_of n
  falls (Atom a) lits w i j h = ⊎_elim (λ e. absurd (subst (λ l. In w (positives_of_literals l)) (sym e) h)) (λ e. absurd e) j
  falls (Complement a) lits w i j h = ⊎_elim (λ e. absurd (subst (λ l. In w (positives_of_literals l)) (sym e) h)) (λ e. absurd e) j
  falls (Fires x) lits w i j h = ⊎_elim
      (λ e. let s : Cyc P part parts (head_at P part parts x) × In x (rules_of P part parts (head_at P part parts x)) = are.source (Fires x) i in
      below-old w 1 (literals-among P.atoms (literals_of (rule_at P.rules x).body) w (literals-fit P.atoms (rule_at P.rules x).body (index-normal x _ s.1) (index-fits x _ s.1)) (subst (λ l. In w (positives_of_literals l)) (sym e) h)) (omega arith))
      (λ e. absurd e) j
  falls (Chosen a b) lits w i j h = ⊎_elim
      (λ e. let s : Cyc P part parts a × Cyc P part parts b × (part b ≡ part a) × In (Left a b) names = are.source (Chosen a b) i in
      ⊎_elim (λ k. below-old w 1 (subst (λ x. members P.atoms x ≡ true) k s.0.0) (omega arith))
      (λ k. ⊎_elim (λ k2. below-old w 1 (subst (λ x. members P.atoms x ≡ true) k2 s.1.0) (omega arith)) (λ k2. absurd k2) k)
      (let t : In w (a ∷ b ∷ []) = subst (λ l. In w (positives_of_literals l)) (sym e) h in t))
      (λ e. absurd e) j
  falls (Left a b) lits w i j h = ⊎_elim (λ e. absurd (subst (λ l. In w (positives_of_literals l)) (sym e) h)) (λ e. absurd e) j
  falls (Backed a) lits w i j h =
      let s : Cyc P part parts a × ((x : ℕ) → In x (rules_of P part parts a) → In (Fires x) names × ((b : ℕ) → In b (inner_at P part parts x) → In (Chosen a b) names)) = are.source (Backed a) i in
      let k : (x : ℕ) × In x (rules_of P part parts a) × ((Pos (num (Fires x)) ∷ map (λ b. Pos (num (Chosen a b))) (inner_at P part parts x)) ≡ lits) = map-in (λ x. Pos (num (Fires x)) ∷ map (λ b. Pos (num (Chosen a b))) (inner_at P part parts x)) (rules_of P part parts a) lits j in
      let t : In w (num (Fires k.0) ∷ positives_of_literals (map (λ b. Pos (num (Chosen a b))) (inner_at P part parts k.0))) = subst (λ l. In w (positives_of_literals l)) (sym k.2) h in
      ⊎_elim (λ e. below (Fires k.0) w 2 ((s.1 k.0 k.1).0) e (omega arith))
      (λ e. let p : (b : ℕ) × In b (inner_at P part parts k.0) × (num (Chosen a b) ≡ w) = positives-in (λ b. num (Chosen a b)) (inner_at P part parts k.0) w e in
      below (Chosen a p.0) w 2 ((s.1 k.0 k.1).1 p.0 p.1) p.2 (omega arith)) t
  falls (NoLater a c) lits w i j h =
      let s : Source P part parts names (NoLater a c) = are.source (NoLater a c) i in
      ⊎_elim
      (λ e.
      let k : (x : ℕ) × In x (rules_of P part parts a) × ((Pos (num (Backs x)) ∷ []) ≡ lits) = map-in (λ x. Pos (num (Backs x)) ∷ []) (rules_of P part parts a) lits (subst (λ l. In lits l) (cond-true (a == c) _ _ e) j) in
      let t : In w (num (Backs k.0) ∷ []) = subst (λ l. In w (positives_of_literals l)) (sym k.2) h in
      ⊎_elim (λ q. below (Backs k.0) w 3 ((s.3 k.0 k.1).0) q (omega arith)) (λ q. absurd q) t)
      (λ e.
      let k : (x : ℕ) × In x (rules_of P part parts a) × ((Pos (num (Fires x)) ∷ map (λ b. Neg (num (NoLater c b))) (inner_at P part parts x)) ≡ lits) = map-in (λ x. Pos (num (Fires x)) ∷ map (λ b. Neg (num (NoLater c b))) (inner_at P part parts x)) (rules_of P part parts a) lits (subst (λ l. In lits l) (cond-false (a == c) _ _ e) j) in
      let t : In w (num (Fires k.0) ∷ positives_of_literals (map (λ b. Neg (num (NoLater c b))) (inner_at P part parts k.0))) = subst (λ l. In w (positives_of_literals l)) (sym k.2) h in
      ⊎_elim (λ q. below (Fires k.0) w 3 ((s.3 k.0 k.1).1) q (omega arith)) (λ q. absurd (negatives-none (λ b. num (NoLater c b)) (inner_at P part parts k.0) w q)) t)
      (cases_Bool (a == c))
  falls (Backs x) lits w i j h = ⊎_elim
      (λ e.
      let s : Source P part parts names (Backs x) = are.source (Backs x) i in
      let t : In w (num (Fires x) ∷ positives_of_literals (map (λ b. Neg (num (NoLater (head_at P part parts x) b))) (inner_at P part parts x))) = subst (λ l. In w (positives_of_literals l)) (sym e) h in
      ⊎_elim (λ q. below (Fires x) w 2 s.2 q (omega arith)) (λ q. absurd (negatives-none (λ b. num (NoLater (head_at P part parts x) b)) (inner_at P part parts x) w q)) t)
      (λ e. absurd e) j

  abbrev D : ℕ → ℕ → Bool
  D = depends (kept_rules P part parts)

  kept-depends : (z w : ℕ) → D z w ≡ true → (depends P.rules z w ≡ true) × (is_cyclic P part parts z ≡ false)
  kept-depends z w h =
      let k : (rule : Rule) × In rule (kept_rules P part parts) × ((members (atoms_of_head rule.head) z && members (positives_of_body rule.body) w) ≡ true) =
      any-in (λ r. members (atoms_of_head r.head) z && members (positives_of_body r.body) w) (kept_rules P part parts) h in
      let s : StaysRule P part parts k.0 = kept-in P program normal part parts names are k.0 k.1 in
      let n : IsNormalHead k.0.head × IsNormalBody k.0.body = each-in (λ rule. IsNormalHead rule.head × IsNormalBody rule.body) P.rules k.0 normal s.there in
      let p : (members (atoms_of_head k.0.head) z ≡ true) × (members (positives_of_body k.0.body) w ≡ true) = and_parts _ _ k.2 in (
        in-any (λ r. members (atoms_of_head r.head) z && members (positives_of_body r.body) w) P.rules k.0 s.there k.2,
        kept-cyclic (is_cyclic P part parts) k.0.head z (head-is k.0.head z n.0 p.0) s.stays,
      )

  D-acyclic : Acyclic D
  D-acyclic node by w =
      let f : (x : ℕ) × (D node x ≡ true) = first-step D node by node w in
      not-both (is_cyclic P part parts node)
      (areparts.cycles node (map (λ x. x) by, walk-map D (depends P.rules) (λ x. x) (λ u v h. (kept-depends u v h).0) node by node w))
      (kept-depends node f.0 f.1).1

  -- the made program has no positive recursion
  pub made-tight : Acyclic (depends Q.rules)
  made-tight = acyclic-level (depends Q.rules) D level down D-acyclic
    where
      down : (z w : ℕ) → depends Q.rules z w ≡ true → (level w < level z) ⊎ ((level w ≡ level z) × (D z w ≡ true))
      down z w h =
          let k : (rule : Rule) × In rule Q.rules × ((members (atoms_of_head rule.head) z && members (positives_of_body rule.body) w) ≡ true) =
          any-in (λ r. members (atoms_of_head r.head) z && members (positives_of_body r.body) w) Q.rules h in
          let p : (members (atoms_of_head k.0.head) z ≡ true) × (members (positives_of_body k.0.body) w ≡ true) = and_parts _ _ k.2 in
          ⊎_elim
          (λ s.
          let n : IsNormalHead k.0.head × IsNormalBody k.0.body = each-in (λ rule. IsNormalHead rule.head × IsNormalBody rule.body) P.rules k.0 normal s.there in
          let f : RuleFits (Among P.atoms) k.0 = each-in (RuleFits (Among P.atoms)) P.rules k.0 program.rules s.there in
          let d : level z ≡ 0 = level-old z (head-among P.atoms k.0.head z (head-is k.0.head z n.0 p.0) f.0) in
          let e : level w ≡ 0 = level-old w (body-among P.atoms k.0.body w n.1 f.1 (member-in (positives_of_body k.0.body) w p.1)) in
          inr (e ∙ sym d, in-any (λ r. members (atoms_of_head r.head) z && members (positives_of_body r.body) w) (kept_rules P part parts) k.0 (in-kept P program normal part parts names are k.0 s.there s.stays) k.2))
          (λ q. inl (⊎_elim
          (λ t.
          let m : (lits : List Literal) × In lits (bodies_of P part parts num q.0) × ((record { head = One (num q.0); body = All lits }) ≡ k.0) = map-in (λ lits. record { head = One (num q.0); body = All lits }) (bodies_of P part parts num q.0) k.0 t in
          let y : ((num q.0 == z) || false) ≡ true = ap (λ r. members (atoms_of_head r.head) z) m.2 ∙ p.0 in
          let z-is : num q.0 ≡ z = ⊎_elim (λ e. eqb-true (num q.0) z e) (λ e. absurd (true≢false (sym e))) (or_cases (num q.0 == z) false y) in
          let l : level w < level_of q.0 = falls q.0 m.0 w q.1 m.1 (member-in (positives_of_literals m.0) w (ap (λ r. members (positives_of_body r.body) w) m.2 ∙ p.1)) in
          let s : level z ≡ level_of q.0 = ap level (sym z-is) ∙ level-is q.0 q.1 in
          (omega arith))
          (λ t.
          let m : (lits : List Literal) × In lits (limits_of P part parts num q.0) × ((record { head = Nothing; body = All lits }) ≡ k.0) = map-in (λ lits. record { head = Nothing; body = All lits }) (limits_of P part parts num q.0) k.0 t in
          let y : false ≡ true = ap (λ r. members (atoms_of_head r.head) z) m.2 ∙ p.0 in
          absurd (true≢false (sym y)))
          (in-append (map (λ lits. record { head = One (num q.0); body = All lits }) (bodies_of P part parts num q.0)) (map (λ lits. record { head = Nothing; body = All lits }) (limits_of P part parts num q.0)) k.0 q.2)))
          (made-in P program normal part parts names are k.0 k.1)

  module _ (M : Set) (supported : Supported Q M) where
    picks : (a : ℕ) → M a ≡ true → Picks Q.rules M (depends Q.rules) a
    picks a m =
        let k : (rule : Rule) × In rule Q.rules × (derives rule M M a ≡ true) = any-in (λ rule. derives rule M M a) Q.rules (supported.step_is a ∙ m) in
        let d : (head_has k.0.head M a ≡ true) × (holds k.0.body M M ≡ true) = and_parts _ _ k.2 in
        let n : IsNormalHead k.0.head × IsNormalBody k.0.body = made-rule-normal P program normal part parts names are k.0 k.1 in
        record { rule = k.0; there = k.1; head = d.0; body = d.1; steps = λ b i. rule-depends Q.rules k.0 a b k.1 (has-is_head k.0.head M a n.0 d.0) i }

    among : (a : ℕ) → M a ≡ true → In a (P.atoms ++ map num names)
    among a m = ⊎_elim
        (λ k. in-left P.atoms (map num names) a (member-in P.atoms a ((from-kept P program normal part parts names are k.0 M M a k.1 k.2).0)))
        (λ k. in-right P.atoms (map num names) a (subst (λ x. In x (map num names)) k.2 (in-map num names k.0 k.1)))
        (step-cases P program normal part parts names are M M a (supported.step_is a ∙ m))

    pub made-founded : Founded Q M
    made-founded = record {
      least_is = same_within (least Q M) M
          (grown-smallest Q.rules M none M (normal-weighed Q.rules normal-made) (λ a e. absurd (true≢false (sym e))) (λ a e. sym (supported.step_is a) ∙ e))
          (within-least Q.rules normal-made M (P.atoms ++ map num names) among (depends Q.rules) made-tight picks);
      keeps = supported.keeps;
    }

    pub made-stable : Acyclic (joined Q.edges M) → Stable Q M
    made-stable c = record { least_is = made-founded.least_is; keeps = supported.keeps; acyclic = c }

  pub stable-supported : (M : Set) → Stable Q M → Supported Q M
  stable-supported M s = Supported-from_Founded Q M normal-made (record { least_is = s.least_is; keeps = s.keeps })
