-- What the rules of an encoding say of a set.
use Rattle.std.proofs.Common.{◌≡◌, refl, sym, ◌∙◌, ap, subst, ℕ, Bool, true, false, not, ◌&&◌, ◌==◌, List, [], ◌∷◌, map, ⊎_elim, inl, inr, ◌⊎◌}
use Rattle.std.specs.List.{list_any, flat_map}
use Rattle.std.proofs.lemmas.Bool.{and_parts, and_from, true≢false, eqb-true, eq-eqb, cases_Bool, not-true}
use Rattle.asp_base.specs.Literal.{Literal, Pos, Neg, all_hold}
use Rattle.asp_base.specs.Sets.{Set, members, In}
use Rattle.ground_program.specs.Facts.{IsProgram, Among, HeadFits, RuleFits}
use Rattle.ground_program.specs.Ground.{Ground}
use Rattle.ground_program.specs.Stable.{holds, head_has, derives, step, is_headless, Supported}
use Rattle.ground_program.specs.declared.program.Head.{Head}
use Rattle.ground_program.specs.declared.program.Head.TheVariants.{Nothing, One, Choice}
use Rattle.ground_program.specs.declared.program.Body.{Body}
use Rattle.ground_program.specs.declared.program.Body.TheVariants.{All, Sum}
use Rattle.ground_program.specs.declared.program.Rule.{Rule}
use Rattle.acyc_edges.specs.Encoding.{has_head_in, rule_at, is_cyclic, rules_of, head_at, bodies_of, limits_of, rules_of_name, kept_rules, made}
use Rattle.acyc_edges.specs.declared.name.Name.{Name}
use Rattle.acyc_edges.specs.declared.name.Name.TheVariants.{Atom, Fires}
use Rattle.acyc_edges.specs.Names.{is_new, atom_of_name}
use Rattle.ground_program.specs.Normal.{IsNormalHead, IsNormalBody, AreNormal, literals_of}
use Rattle.acyc_edges.proofs.Inside.{in-left, in-right, in-append, in-map, map-in, in-flat, flat-in, in-filter, filter-in, any-in, in-any, each-in, not-both}
use Rattle.acyc_edges.proofs.NameLaws.{old-name, num-new, num-one}
use Rattle.acyc_edges.specs.private.Sources.{Cyc, AreNames}
use Rattle.acyc_edges.proofs.Sources.{counted-rule}

pub normal-holds : (body : Body) (X M : Set) → IsNormalBody body → holds body X M ≡ all_hold (literals_of body) X M
normal-holds (All lits) X M n = refl
normal-holds (Sum bound items) X M n = absurd n

module _ (P : Ground) (part : ℕ → ℕ) (parts : List ℕ) where
  -- a rule with a head in no cyclic component
  pub record StaysRule (rule : Rule) : Type 0 where
    pub there : In rule P.rules
    pub stays : has_head_in (is_cyclic P part parts) rule.head ≡ false

  -- a body of the name holds
  pub record HoldsName (names : List Name) (n : Name) (X M : Set) : Type 0 where
    pub lits : List Literal
    pub there : In lits (bodies_of P part parts (atom_of_name P.atoms names) n)
    pub holds : all_hold lits X M ≡ true

module _ (P : Ground) (program : IsProgram P) (normal : AreNormal P.rules) (part : ℕ → ℕ) (parts : List ℕ) (names : List Name) (are : AreNames P part parts names) where
  abbrev num : Name → ℕ
  num = atom_of_name P.atoms names

  abbrev Q : Ground
  Q = made P part parts names

  pub old : (a : ℕ) → In (Atom a) names → members P.atoms a ≡ true
  old a i = (are.source (Atom a) i).0

  pub one : (m n : Name) → In m names → In n names → num m ≡ num n → m ≡ n
  one = num-one P.atoms names old

  abbrev Keeps_rule : Rule → Type 0
  Keeps_rule rule = StaysRule P part parts rule

  abbrev Holds : Name → Set → Set → Type 0
  Holds n X M = HoldsName P part parts names n X M

  pub kept-in : (rule : Rule) → In rule (kept_rules P part parts) → Keeps_rule rule
  kept-in rule i = let k : In rule P.rules × (not (has_head_in (is_cyclic P part parts) rule.head) ≡ true) = filter-in (λ r. not (has_head_in (is_cyclic P part parts) r.head)) P.rules rule i in
      record { there = k.0; stays = not-true (has_head_in (is_cyclic P part parts) rule.head) k.1 }

  pub in-kept : (rule : Rule) → In rule P.rules → has_head_in (is_cyclic P part parts) rule.head ≡ false → In rule (kept_rules P part parts)
  in-kept rule i h = in-filter (λ r. not (has_head_in (is_cyclic P part parts) r.head)) P.rules rule i (ap not h)

  -- the head of a rule that stays
  kept-head : (head : Head) (M : Set) (z : ℕ) → IsNormalHead head → HeadFits (Among P.atoms) head → has_head_in (is_cyclic P part parts) head ≡ false → head_has head M z ≡ true
      → (members P.atoms z ≡ true) × (is_cyclic P part parts z ≡ false)
  kept-head Nothing M z n f h e = absurd (true≢false (sym e))
  kept-head (One b) M z n f h e = (subst (λ c. members P.atoms c ≡ true) (eqb-true b z e) f, subst (λ c. is_cyclic P part parts c ≡ false) (eqb-true b z e) h)
  kept-head (Choice as_) M z n f h e = absurd n

  pub from-kept : (rule : Rule) (X M : Set) (z : ℕ) → Keeps_rule rule → derives rule M X z ≡ true → (members P.atoms z ≡ true) × (is_cyclic P part parts z ≡ false)
  from-kept rule X M z k d =
      let n : IsNormalHead rule.head × IsNormalBody rule.body = each-in _ P.rules rule normal k.there in
      let f : RuleFits (Among P.atoms) rule = each-in (RuleFits (Among P.atoms)) P.rules rule program.rules k.there in
      kept-head rule.head M z n.0 f.0 k.stays ((and_parts _ _ d).0)

  -- what a rule of a name derives
  from-name : (n : Name) (rule : Rule) (X M : Set) (z : ℕ) → In rule (rules_of_name P part parts num n) → derives rule M X z ≡ true → (num n ≡ z) × Holds n X M
  from-name n rule X M z i d = ⊎_elim
      (λ h. let k : (lits : List Literal) × In lits (bodies_of P part parts num n) × ((record { head = One (num n); body = All lits }) ≡ rule) = map-in (λ lits. record { head = One (num n); body = All lits }) (bodies_of P part parts num n) rule h in
      let e : derives (record { head = One (num n); body = All k.0 }) M X z ≡ true = subst (λ r. derives r M X z ≡ true) (sym k.2) d in
      let p : ((num n == z) ≡ true) × (all_hold k.0 X M ≡ true) = and_parts _ _ e in
      (eqb-true (num n) z p.0, record { lits = k.0; there = k.1; holds = p.1 }))
      (λ h. let k : (lits : List Literal) × In lits (limits_of P part parts num n) × ((record { head = Nothing; body = All lits }) ≡ rule) = map-in (λ lits. record { head = Nothing; body = All lits }) (limits_of P part parts num n) rule h in
      let e : derives (record { head = Nothing; body = All k.0 }) M X z ≡ true = subst (λ r. derives r M X z ≡ true) (sym k.2) d in
      absurd (true≢false (sym e)))
      (in-append (map (λ lits. record { head = One (num n); body = All lits }) (bodies_of P part parts num n)) (map (λ lits. record { head = Nothing; body = All lits }) (limits_of P part parts num n)) rule i)

  -- a rule of the made program stays, or is one of a name
  pub made-in : (rule : Rule) → In rule Q.rules → Keeps_rule rule ⊎ ((n : Name) × In n names × In rule (rules_of_name P part parts num n))
  made-in rule i = ⊎_elim (λ h. inl (kept-in rule h)) (λ h. inr (flat-in (rules_of_name P part parts num) names rule h))
      (in-append (kept_rules P part parts) (flat_map (rules_of_name P part parts num) names) rule i)

  pub in-made-kept : (rule : Rule) → In rule P.rules → has_head_in (is_cyclic P part parts) rule.head ≡ false → In rule Q.rules
  in-made-kept rule i h = in-left (kept_rules P part parts) (flat_map (rules_of_name P part parts num) names) rule (in-kept rule i h)

  pub in-made-name : (n : Name) (rule : Rule) → In n names → In rule (rules_of_name P part parts num n) → In rule Q.rules
  in-made-name n rule i h = in-right (kept_rules P part parts) (flat_map (rules_of_name P part parts num) names) rule (in-flat (rules_of_name P part parts num) names n rule i h)

  pub step-cases : (X M : Set) (z : ℕ) → step Q.rules M X z ≡ true
      → ((rule : Rule) × Keeps_rule rule × (derives rule M X z ≡ true)) ⊎ ((n : Name) × In n names × (num n ≡ z) × Holds n X M)
  step-cases X M z h =
      let k : (rule : Rule) × In rule Q.rules × (derives rule M X z ≡ true) = any-in (λ rule. derives rule M X z) Q.rules h in
      ⊎_elim (λ j. inl (k.0, j, k.2))
      (λ j. let d : (num j.0 ≡ z) × Holds j.0 X M = from-name j.0 k.0 X M z j.2 k.2 in inr (j.0, j.1, d.0, d.1))
      (made-in k.0 k.1)

  -- the atom of a name is not the head of a rule that stays
  pub name-apart : (n : Name) → In n names → members P.atoms (num n) ≡ true → is_cyclic P part parts (num n) ≡ false → ⊥
  name-apart n i m c = go (is_new n) refl
    where
      go : (b : Bool) → is_new n ≡ b → ⊥
      go true e = not-both (members P.atoms (num n)) m (num-new P.atoms names n e)
      go false e =
          let s : n ≡ Atom _ = old-name n e in
          let t : In (Atom _) names = subst (λ m. In m names) s i in
          let k : Cyc P part parts _ = are.source (Atom _) t in
          not-both (is_cyclic P part parts _) k.1 (subst (λ x. is_cyclic P part parts (num x) ≡ false) s c)

  pub step-name : (n : Name) (X M : Set) → In n names → step Q.rules M X (num n) ≡ true → Holds n X M
  step-name n X M i h = ⊎_elim
      (λ k. let j : (members P.atoms (num n) ≡ true) × (is_cyclic P part parts (num n) ≡ false) = from-kept k.0 X M (num n) k.1 k.2 in absurd (name-apart n i j.0 j.1))
      (λ k. subst (λ m. Holds m X M) (one k.0 n k.1 i k.2) k.3)
      (step-cases X M (num n) h)

  pub name-step : (n : Name) (X M : Set) → In n names → Holds n X M → step Q.rules M X (num n) ≡ true
  name-step n X M i b = in-any (λ rule. derives rule M X (num n)) Q.rules (record { head = One (num n); body = All b.lits })
      (in-made-name n (record { head = One (num n); body = All b.lits }) i
      (in-left (map (λ lits. record { head = One (num n); body = All lits }) (bodies_of P part parts num n)) (map (λ lits. record { head = Nothing; body = All lits }) (limits_of P part parts num n)) _
      (in-map (λ lits. record { head = One (num n); body = All lits }) (bodies_of P part parts num n) b.lits b.there)))
      (and_from _ _ (eq-eqb (num n) (num n) refl) b.holds)

  pub kept-step : (rule : Rule) (X M : Set) (z : ℕ) → In rule P.rules → has_head_in (is_cyclic P part parts) rule.head ≡ false → derives rule M X z ≡ true → step Q.rules M X z ≡ true
  kept-step rule X M z i h d = in-any (λ r. derives r M X z) Q.rules rule (in-made-kept rule i h) d

  -- ---- the made program is normal

  pub made-rule-normal : (rule : Rule) → In rule Q.rules → IsNormalHead rule.head × IsNormalBody rule.body
  made-rule-normal rule i = ⊎_elim
      (λ k. each-in _ P.rules rule normal k.there)
      (λ k. ⊎_elim
      (λ h. let j : (lits : List Literal) × In lits (bodies_of P part parts num k.0) × ((record { head = One (num k.0); body = All lits }) ≡ rule) = map-in (λ lits. record { head = One (num k.0); body = All lits }) (bodies_of P part parts num k.0) rule h in
      subst (λ r. IsNormalHead r.head × IsNormalBody r.body) j.2 (tt, tt))
      (λ h. let j : (lits : List Literal) × In lits (limits_of P part parts num k.0) × ((record { head = Nothing; body = All lits }) ≡ rule) = map-in (λ lits. record { head = Nothing; body = All lits }) (limits_of P part parts num k.0) rule h in
      subst (λ r. IsNormalHead r.head × IsNormalBody r.body) j.2 (tt, tt))
      (in-append (map (λ lits. record { head = One (num k.0); body = All lits }) (bodies_of P part parts num k.0)) (map (λ lits. record { head = Nothing; body = All lits }) (limits_of P part parts num k.0)) rule k.2))
      (made-in rule i)

  -- ---- a supported set

  module _ (M : Set) (supported : Supported Q M) where
    pub says : (n : Name) → In n names → M (num n) ≡ true → Holds n M M
    says n i h = step-name n M M i (supported.step_is (num n) ∙ h)

    pub hears : (n : Name) → In n names → Holds n M M → M (num n) ≡ true
    hears n i b = sym (supported.step_is (num n)) ∙ name-step n M M i b

    pub limit : (n : Name) (lits : List Literal) → In n names → In lits (limits_of P part parts num n) → all_hold lits M M ≡ true → ⊥
    limit n lits i j h = not-both (list_any (λ rule. is_headless rule.head && holds rule.body M M) Q.rules)
        (in-any (λ rule. is_headless rule.head && holds rule.body M M) Q.rules (record { head = Nothing; body = All lits })
        (in-made-name n (record { head = Nothing; body = All lits }) i
        (in-right (map (λ l. record { head = One (num n); body = All l }) (bodies_of P part parts num n)) (map (λ l. record { head = Nothing; body = All l }) (limits_of P part parts num n)) _
        (in-map (λ l. record { head = Nothing; body = All l }) (limits_of P part parts num n) lits j)))
        h)
        supported.keeps.headless

    rule-normal : (i : ℕ) (a : ℕ) → In i (rules_of P part parts a) → IsNormalBody (rule_at P.rules i).body
    rule-normal i a h = (each-in (λ rule. IsNormalHead rule.head × IsNormalBody rule.body) P.rules (rule_at P.rules i) normal (counted-rule P.rules i ((filter-in _ _ i h).0))).1

    -- the atom of a body holds just where the body does
    pub fires-says : (i : ℕ) → In (Fires i) names → M (num (Fires i)) ≡ true → holds (rule_at P.rules i).body M M ≡ true
    fires-says i h e =
        let b : Holds (Fires i) M M = says (Fires i) h e in
        normal-holds (rule_at P.rules i).body M M (rule-normal i _ ((are.source (Fires i) h).1)) ∙ ⊎_elim (λ k. ap (λ lits. all_hold lits M M) k ∙ b.holds) (λ k. absurd k) b.there

    pub fires-hears : (i : ℕ) → In (Fires i) names → holds (rule_at P.rules i).body M M ≡ true → M (num (Fires i)) ≡ true
    fires-hears i h e = hears (Fires i) h (record {
      lits = literals_of (rule_at P.rules i).body;
      there = inl refl;
      holds = sym (normal-holds (rule_at P.rules i).body M M (rule-normal i _ ((are.source (Fires i) h).1))) ∙ e;
    })

    -- it forces the head
    pub fires-head : (i : ℕ) → In (Fires i) names → holds (rule_at P.rules i).body M M ≡ true → M (head_at P part parts i) ≡ true
    fires-head i h e = ⊎_elim (λ t. t)
        (λ t. absurd (limit (Fires i) (Pos (num (Fires i)) ∷ Neg (head_at P part parts i) ∷ []) h (inl refl) (and_from _ _ (fires-hears i h e) (and_from _ _ (ap not t) refl))))
        (cases_Bool (M (head_at P part parts i)))
