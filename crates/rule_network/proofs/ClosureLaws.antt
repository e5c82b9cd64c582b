-- What the atoms of a block say: an atom outside what the set says, a new atom what its rules say
-- of those before it. Rules for one more atom are shown to change nothing else by two closed sets:
-- what was derived with the new atom is closed under all rules, and what is derived now, with the
-- new atom in any case, is closed under the old ones.
use Rattle.std.proofs.Common.{◌≡◌, refl, sym, ◌∙◌, ap, ap₂, ℕ, zero, suc, ◌==◌, Bool, true, false, not, cond, ◌&&◌, ◌||◌, List, [], ◌∷◌, ◌++◌, map, length, ⊎_elim}
use Rattle.std.specs.List.{list_any, AllByRecursion}
use Rattle.std.proofs.lemmas.Bool.{and_parts, and_from, and_left, or_cases, or_left, or_right, true≢false, eqb-true, eqb-false, eq-eqb, ne_eqb, cases_Bool, cond-true, cond-false}
use Rattle.std.proofs.lemmas.List.Folds.{list_any-append}
use Rattle.asp_base.specs.Literal.{Literal, Pos, Neg, all_hold}
use Rattle.asp_base.specs.Sets.{Set, Within}
use Rattle.asp_base.proofs.Bools.{and_false, same_test}
use Rattle.ground_program.specs.Closed.{Weighed, Closed, HasWeights}
use Rattle.ground_program.specs.Stable.{holds, head_has, derives, step, rounds, grown}
use Rattle.ground_program.specs.declared.program.Head.{Head}
use Rattle.ground_program.specs.declared.program.Head.TheVariants.{Nothing, One, Choice}
use Rattle.ground_program.specs.declared.program.Body.{Body}
use Rattle.ground_program.specs.declared.program.Body.TheVariants.{All, Sum}
use Rattle.ground_program.specs.declared.program.Rule.{Rule}
use Rattle.ground_program.proofs.Least.{grown-closed, grown-smallest, rounds-more}

pub within-rounds : (n : ℕ) (rules : List Rule) (M X : Set) → Within X (rounds n rules M X)
within-rounds zero rules M X a e = e
within-rounds (suc n) rules M X a e = rounds-more n rules M X a (within-rounds n rules M X a e)

-- ---- bodies that do not rest on an atom

-- the literal is not this atom
abbrev pub Avoids : ℕ → Literal → Type 0
Avoids a (Pos b) = (a == b) ≡ false
Avoids a (Neg b) = Unit {0}

abbrev pub BodyAvoids : ℕ → Body → Type 0
BodyAvoids a (All lits) = AllByRecursion (Avoids a) lits
BodyAvoids a (Sum bound items) = ⊥

abbrev pub HeadAvoids : ℕ → Head → Type 0
HeadAvoids a Nothing = Unit {0}
HeadAvoids a (One b) = (a == b) ≡ false
HeadAvoids a (Choice bs) = ⊥

abbrev pub RulesAvoid : ℕ → List Rule → Type 0
RulesAvoid a rules = AllByRecursion (λ rule. HeadAvoids a rule.head × BodyAvoids a rule.body) rules

-- the same at every other atom
abbrev pub SameBut : ℕ → Set → Set → Type 0
SameBut a X Y = (b : ℕ) → (a == b) ≡ false → X b ≡ Y b

module _ (a : ℕ) (X Y M : Set) (same : SameBut a X Y) where
  all_hold-but : (lits : List Literal) → AllByRecursion (Avoids a) lits
      → all_hold lits X M ≡ all_hold lits Y M
  all_hold-but [] h = refl
  all_hold-but (Pos b ∷ lits) h = ap₂ ◌&&◌ (same b h.0) (all_hold-but lits h.1)
  all_hold-but (Neg b ∷ lits) h = ap (λ t. not (M b) && t) (all_hold-but lits h.1)

  body-but : (body : Body) → BodyAvoids a body → holds body X M ≡ holds body Y M
  body-but (All lits) h = all_hold-but lits h
  body-but (Sum bound items) h = absurd h

  step-but : (rules : List Rule) → RulesAvoid a rules → (b : ℕ)
      → step rules M X b ≡ step rules M Y b
  step-but [] h b = refl
  step-but (rule ∷ rules) h b =
      ap₂ ◌||◌ (ap (λ t. head_has rule.head M b && t) (body-but rule.body h.0.1))
      (step-but rules h.1 b)

-- no rule is for the atom
turned : (a b : ℕ) → (a == b) ≡ false → (b == a) ≡ false
turned a b h = ne_eqb b a (λ e. eqb-false a b h (sym e))

head-but : (a : ℕ) (M : Set) (head : Head) → HeadAvoids a head → head_has head M a ≡ false
head-but a M Nothing h = refl
head-but a M (One b) h = turned a b h
head-but a M (Choice bs) h = absurd h

step-none : (a : ℕ) (M X : Set) (rules : List Rule) → RulesAvoid a rules
    → step rules M X a ≡ false
step-none a M X [] h = refl
step-none a M X (rule ∷ rules) h =
    ap₂ ◌||◌ (and_left _ _ (head-but a M rule.head h.0.0)) (step-none a M X rules h.1)

RulesAvoid-weighed : (a : ℕ) (rules : List Rule) → RulesAvoid a rules → Weighed rules
RulesAvoid-weighed a [] h = tt
RulesAvoid-weighed a (rule ∷ rules) h = (weights rule.body h.0.1, RulesAvoid-weighed a rules h.1)
  where
    weights : (body : Body) → BodyAvoids a body → HasWeights body
    weights (All lits) h = tt
    weights (Sum bound items) h = absurd h

-- ---- the rules of one atom

abbrev pub cell_rules : ℕ → List (List Literal) → List Rule
cell_rules a bodies = map (λ body. record { head = One a; body = All body }) bodies

-- one of the bodies holds
abbrev some_holds : List (List Literal) → Set → Set → Bool
some_holds bodies X M = list_any (λ body. all_hold body X M) bodies

cell-step : (a : ℕ) (bodies : List (List Literal)) (M X : Set) (b : ℕ)
    → step (cell_rules a bodies) M X b ≡ ((a == b) && some_holds bodies X M)
cell-step a [] M X b = sym (and_false (a == b))
cell-step a (body ∷ bodies) M X b =
    ap (λ s. ((a == b) && all_hold body X M) || s) (cell-step a bodies M X b)
    ∙ go (a == b) (all_hold body X M) (some_holds bodies X M)
  where
    go : (h p q : Bool) → ((h && p) || (h && q)) ≡ (h && (p || q))
    go true p q = refl
    go false p q = refl

cell-weighed : (a : ℕ) (rules : List Rule) (bodies : List (List Literal)) → Weighed rules
    → Weighed (rules ++ cell_rules a bodies)
cell-weighed a [] [] w = tt
cell-weighed a [] (body ∷ bodies) w = (tt, cell-weighed a [] bodies w)
cell-weighed a (rule ∷ rules) bodies w = (w.0, cell-weighed a rules bodies w.1)

some-but : (a : ℕ) (X Y M : Set) → SameBut a X Y → (bodies : List (List Literal))
    → AllByRecursion (AllByRecursion (Avoids a)) bodies
    → some_holds bodies X M ≡ some_holds bodies Y M
some-but a X Y M s [] h = refl
some-but a X Y M s (body ∷ bodies) h =
    ap₂ ◌||◌ (all_hold-but a X Y M s body h.0) (some-but a X Y M s bodies h.1)

-- Rules for one more atom: what was derived stays the same at every other atom, and the new one is
-- derived where a body holds.
module _ (a : ℕ) (rules : List Rule) (bodies : List (List Literal)) (M X Y : Set)
    (avoid : RulesAvoid a rules) (fresh : AllByRecursion (AllByRecursion (Avoids a)) bodies)
    (same : SameBut a X Y) (without : Y a ≡ false) where
  abbrev before : Set
  before = grown rules M X

  abbrev every : List Rule
  every = rules ++ cell_rules a bodies

  abbrev after : Set
  after = grown every M Y

  abbrev new : Bool
  new = some_holds bodies before M

  -- what was derived, with the new atom
  W : Set
  W b = cond (a == b) new (before b)

  weights : Weighed rules
  weights = RulesAvoid-weighed a rules avoid

  all_weights : Weighed every
  all_weights = cell-weighed a rules bodies weights

  step-append : (Z : Set) (b : ℕ)
      → step every M Z b ≡ (step rules M Z b || step (cell_rules a bodies) M Z b)
  step-append Z b = list_any-append (λ rule. derives rule M Z b) rules (cell_rules a bodies)

  W-but : SameBut a W before
  unfolding W
  W-but b e = cond-false (a == b) new (before b) e

  W-at : (b : ℕ) → (a == b) ≡ true → W b ≡ new
  unfolding W
  W-at b e = cond-true (a == b) new (before b) e

  start : Within Y W
  start b y =
      ⊎_elim (λ e. absurd (true≢false (sym y ∙ (ap Y (sym (eqb-true a b e)) ∙ without))))
      (λ e. W-but b e ∙ within-rounds (length rules) rules M X b (same b e ∙ y))
      (cases_Bool (a == b))

  rules-stay : (b : ℕ) → step rules M W b ≡ true → W b ≡ true
  rules-stay b s =
      ⊎_elim
      (λ e. absurd (true≢false
      (sym s ∙ (ap (step rules M W) (sym (eqb-true a b e)) ∙ step-none a M W rules avoid))))
      (λ e. W-but b e
      ∙ grown-closed rules M X weights b (sym (step-but a W before M W-but rules avoid b) ∙ s))
      (cases_Bool (a == b))

  cell-stays : (b : ℕ) → step (cell_rules a bodies) M W b ≡ true → W b ≡ true
  cell-stays b s =
      let k : ((a == b) ≡ true) × (some_holds bodies W M ≡ true) =
      and_parts _ _ (sym (cell-step a bodies M W b) ∙ s) in
      W-at b k.0 ∙ (sym (some-but a W before M W-but bodies fresh) ∙ k.1)

  closed : Closed every M W
  closed b s = ⊎_elim (rules-stay b) (cell-stays b) (or_cases _ _ (sym (step-append W b) ∙ s))

  after-within : Within after W
  after-within = grown-smallest every M Y W all_weights start closed

  -- what is derived now, with the new atom in any case
  Z : Set
  Z b = (a == b) || after b

  Z-but : SameBut a Z after
  unfolding Z
  Z-but b e = ap (λ t. t || after b) e

  Z-at : (b : ℕ) → (a == b) ≡ true → Z b ≡ true
  unfolding Z
  Z-at b e = or_left _ _ e

  start_again : Within X Z
  start_again b x =
      ⊎_elim (Z-at b)
      (λ e. Z-but b e ∙ within-rounds (length every) every M Y b (sym (same b e) ∙ x))
      (cases_Bool (a == b))

  closed_again : Closed rules M Z
  closed_again b s =
      ⊎_elim (Z-at b)
      (λ e. Z-but b e
      ∙ grown-closed every M Y all_weights b
      (step-append after b ∙ or_left _ _ (sym (step-but a Z after M Z-but rules avoid b) ∙ s)))
      (cases_Bool (a == b))

  before-within : Within before Z
  before-within = grown-smallest rules M X Z weights start_again closed_again

  pub cell-keeps : SameBut a after before
  cell-keeps b e =
      same_test _ _ (λ t. sym (W-but b e) ∙ after-within b t)
      (λ t. sym (Z-but b e) ∙ before-within b t)

  pub cell-is : after a ≡ new
  cell-is =
      let own : (a == a) ≡ true = eq-eqb a a refl in
      same_test _ _ (λ t. sym (W-at a own) ∙ after-within a t)
      (λ t. grown-closed every M Y all_weights a
      (step-append after a
      ∙ or_right _ _ (cell-step a bodies M after a
      ∙ and_from _ _ own (some-but a after before M cell-keeps bodies fresh ∙ t))))
