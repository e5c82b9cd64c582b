-- The new atoms of a lowered program: what their rules derive, and that each stands for one body.
use Rattle.asp_base.proofs.Bools.{or_false}
use Rattle.std.proofs.Common.{◌≡◌, refl, sym, ◌∙◌, ap, ap₂, ℕ, suc, ◌+◌, ◌<◌, ◌≤◌, ◌==◌, Bool, true, false, cond, ◌&&◌, ◌||◌, List, [], ◌∷◌, arith}
use Rattle.std.proofs.lemmas.Bool.{or_from, and_left, eq-eqb, ne_eqb}
use Rattle.asp_base.specs.Sets.{Set}
use Rattle.ground_program.specs.Stable.{holds}
use Rattle.ground_program.specs.declared.program.Head.{Head}
use Rattle.ground_program.specs.declared.program.Head.TheVariants.{Nothing, One, Choice}
use Rattle.ground_program.specs.declared.program.Body.{Body}
use Rattle.ground_program.specs.declared.program.Body.TheVariants.{All, Sum}
use Rattle.ground_program.specs.declared.program.Rule.{Rule}
use Rattle.ground_program.specs.declared.program.Show.{Show}
use Rattle.smodels_format.specs.Lowering.{rule_draws, after_rules, is_single}

-- numbers rise with their index
abbrev pub Rises : (ℕ → ℕ) → Type 0
Rises new = (i j : ℕ) → i < j → new i < new j

-- one of two facts
abbrev pub Whether : Bool → Type 0 → Type 0 → Type 0
Whether true P Q = P
Whether false P Q = Q

module _ (new : ℕ → ℕ) where
  -- ---- what the rules of new atoms derive, with the atoms by their index

  abbrev pub choice_value : ℕ → Body → Set → Set → Set
  choice_value n (All lits) X M a = false
  choice_value n (Sum bound items) X M a = (new n == a) && holds (Sum bound items) X M

  abbrev pub rule_value : ℕ → Head → Body → Set → Set → Set
  rule_value n Nothing body X M a = false
  rule_value n (One b) body X M a = false
  rule_value n (Choice as_) body X M a = choice_value n body X M a

  abbrev pub rules_value : ℕ → List Rule → Set → Set → Set
  rules_value n [] X M a = false
  rules_value n (rule ∷ rules) X M a = rule_value n rule.head rule.body X M a || rules_value (n + rule_draws rule.head rule.body) rules X M a

  abbrev pub shows_value : ℕ → List Show → Set → Set → Set
  shows_value n [] X M a = false
  shows_value n (show ∷ shows) X M a = cond (is_single show.condition) (shows_value n shows X M a) (((new n == a) && holds (All show.condition) X M) || shows_value (suc n) shows X M a)

  -- ---- a set holds each new atom just where its body holds

  abbrev pub ChoiceNamed : Set → Set → Set → ℕ → Body → Type 0
  ChoiceNamed Z X M n (All lits) = Unit {0}
  ChoiceNamed Z X M n (Sum bound items) = Z (new n) ≡ holds (Sum bound items) X M

  abbrev pub RuleNamed : Set → Set → Set → ℕ → Head → Body → Type 0
  RuleNamed Z X M n Nothing body = Unit {0}
  RuleNamed Z X M n (One b) body = Unit {0}
  RuleNamed Z X M n (Choice as_) body = ChoiceNamed Z X M n body

  abbrev pub RulesNamed : Set → Set → Set → ℕ → List Rule → Type 0
  RulesNamed Z X M n [] = Unit {0}
  RulesNamed Z X M n (rule ∷ rules) = RuleNamed Z X M n rule.head rule.body × RulesNamed Z X M (n + rule_draws rule.head rule.body) rules

  abbrev pub ShowsNamed : Set → Set → Set → ℕ → List Show → Type 0
  ShowsNamed Z X M n [] = Unit {0}
  ShowsNamed Z X M n (show ∷ shows) = Whether (is_single show.condition) (ShowsNamed Z X M n shows) ((Z (new n) ≡ holds (All show.condition) X M) × ShowsNamed Z X M (suc n) shows)

-- ---- each new atom has one body

pub after_rules-from : (n : ℕ) (rules : List Rule) → n ≤ after_rules n rules
after_rules-from n [] = omega arith
after_rules-from n (rule ∷ rules) = let h : n + rule_draws rule.head rule.body ≤ after_rules (n + rule_draws rule.head rule.body) rules = after_rules-from (n + rule_draws rule.head rule.body) rules in omega arith

module _ (new : ℕ → ℕ) (rises : Rises new) (X M : Set) where
  pub later : (k n : ℕ) → k < n → (new n == new k) ≡ false
  later k n h = ne_eqb _ _ (λ e. let r : new k < new n = rises k n h in omega arith)

  pub earlier : (k n : ℕ) → n < k → (new n == new k) ≡ false
  earlier k n h = ne_eqb _ _ (λ e. let r : new n < new k = rises n k h in omega arith)

  rule-below : (k n : ℕ) (head : Head) (body : Body) → k < n → rule_value new n head body X M (new k) ≡ false
  rule-below k n Nothing body h = refl
  rule-below k n (One b) body h = refl
  rule-below k n (Choice as_) (All lits) h = refl
  rule-below k n (Choice as_) (Sum bound items) h = and_left _ _ (later k n h)

  rule-above : (k n : ℕ) (head : Head) (body : Body) → n + rule_draws head body ≤ k → rule_value new n head body X M (new k) ≡ false
  rule-above k n Nothing body h = refl
  rule-above k n (One b) body h = refl
  rule-above k n (Choice as_) (All lits) h = refl
  rule-above k n (Choice as_) (Sum bound items) h = and_left _ _ (earlier k n (omega arith))

  pub rules-below : (k n : ℕ) (rules : List Rule) → k < n → rules_value new n rules X M (new k) ≡ false
  rules-below k n [] h = refl
  rules-below k n (rule ∷ rules) h = or_from _ _ (rule-below k n rule.head rule.body h) (rules-below k (n + rule_draws rule.head rule.body) rules (omega arith))

  pub rules-above : (k n : ℕ) (rules : List Rule) → after_rules n rules ≤ k → rules_value new n rules X M (new k) ≡ false
  rules-above k n [] h = refl
  rules-above k n (rule ∷ rules) h =
      let m : ℕ = n + rule_draws rule.head rule.body in
      let from : n + rule_draws rule.head rule.body ≤ after_rules (n + rule_draws rule.head rule.body) rules = after_rules-from m rules in
      or_from _ _ (rule-above k n rule.head rule.body (omega arith)) (rules-above k m rules h)

  pub shows-below : (k n : ℕ) (shows : List Show) → k < n → shows_value new n shows X M (new k) ≡ false
  shows-below k n [] h = refl
  shows-below k n (show ∷ shows) h = go (is_single show.condition) (shows-below k n shows h) (or_from _ _ (and_left _ _ (later k n h)) (shows-below k (suc n) shows (omega arith)))
    where
      go : (b : Bool) {x y : Bool} → x ≡ false → y ≡ false → cond b x y ≡ false
      go true p q = p
      go false p q = q

  module _ (Z : Set) where
    own : (n : ℕ) (h v r : Bool) → Z (new n) ≡ ((((new n == new n) && h) || v) || r) → v ≡ false → r ≡ false → Z (new n) ≡ h
    own n h v r e p q =
        e ∙ (ap₂ (λ x y. (x || v) || y) (ap (λ x. x && h) (eq-eqb (new n) (new n) refl)) q ∙ (or_false (h || v) ∙ (ap (λ x. h || x) p ∙ or_false h)))

    rule-named : (n : ℕ) (head : Head) (body : Body) (v r : Bool) → Z (new n) ≡ ((rule_value new n head body X M (new n) || v) || r) → (n < n + rule_draws head body → (v ≡ false) × (r ≡ false)) → RuleNamed new Z X M n head body
    rule-named n Nothing body v r e f = tt
    rule-named n (One b) body v r e f = tt
    rule-named n (Choice as_) (All lits) v r e f = tt
    rule-named n (Choice as_) (Sum bound items) v r e f = let p : (v ≡ false) × (r ≡ false) = f (omega arith) in own n (holds (Sum bound items) X M) v r e p.0 p.1

    pub rules-named : (rest : ℕ → Bool) (n : ℕ) (rules : List Rule) → ((k : ℕ) → k < after_rules n rules → rest k ≡ false) → ((k : ℕ) → n ≤ k → Z (new k) ≡ (rules_value new n rules X M (new k) || rest k)) → RulesNamed new Z X M n rules
    rules-named rest n [] f h = tt
    rules-named rest n (rule ∷ rules) f h =
        let m : ℕ = n + rule_draws rule.head rule.body in
        let from : n + rule_draws rule.head rule.body ≤ after_rules (n + rule_draws rule.head rule.body) rules = after_rules-from m rules in (
          rule-named n rule.head rule.body _ _ (h n (omega arith)) (λ l. (rules-below n m rules l, f n (omega arith))),
          rules-named rest m rules f (λ k l. h k (omega arith) ∙ ap (λ x. (x || rules_value new m rules X M (new k)) || rest k) (rule-above k n rule.head rule.body l)),
        )

    pub shows-named : (n : ℕ) (shows : List Show) → ((k : ℕ) → n ≤ k → Z (new k) ≡ shows_value new n shows X M (new k)) → ShowsNamed new Z X M n shows
    shows-named n [] h = tt
    shows-named n (show ∷ shows) h = go (is_single show.condition) h (shows-named n shows) (shows-named (suc n) shows)
      where
        H : Bool
        H = holds (All show.condition) X M

        go : (b : Bool) →
            ((k : ℕ) → n ≤ k → Z (new k) ≡ cond b (shows_value new n shows X M (new k)) (((new n == new k) && H) || shows_value new (suc n) shows X M (new k))) →
            (((k : ℕ) → n ≤ k → Z (new k) ≡ shows_value new n shows X M (new k)) → ShowsNamed new Z X M n shows) →
            (((k : ℕ) → suc n ≤ k → Z (new k) ≡ shows_value new (suc n) shows X M (new k)) → ShowsNamed new Z X M (suc n) shows) →
            Whether b (ShowsNamed new Z X M n shows) ((Z (new n) ≡ H) × ShowsNamed new Z X M (suc n) shows)
        go true h p q = p h
        go false h p q = (
          own n H (shows_value new (suc n) shows X M (new n)) false (h n (omega arith) ∙ sym (or_false _)) (shows-below n (suc n) shows (omega arith)) refl,
          q (λ k l. h k (omega arith) ∙ ap (λ x. x || shows_value new (suc n) shows X M (new k)) (and_left _ _ (earlier k n (omega arith)))),
        )
