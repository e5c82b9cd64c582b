-- What rules derive and say depends on the atoms of their bodies and heads alone.
use Rattle.std.proofs.Common.{◌≡◌, refl, sym, ◌∙◌, ap, ap₂, subst, ℕ, ℤ, pos, ◌+ℤ◌, int_le, true, false, cond, not, ◌&&◌, ◌||◌, List, [], ◌∷◌, ◌++◌, ⊎_elim}
use Rattle.std.specs.List.{AllByRecursion}
use Rattle.std.proofs.lemmas.Bool.{false_from_ne_true, and_parts, or_cases, or_left, or_right, true≢false, eqb-true}
use Rattle.std.proofs.lemmas.List.Folds.{list_any-append}
use Rattle.asp_base.specs.Literal.{Literal, Pos, Neg, atom_of, literal_holds, all_hold}
use Rattle.asp_base.specs.Sets.{Set, members, Within, Same}
use Rattle.ground_program.specs.Closed.{Weighed, Closed}
use Rattle.ground_program.specs.Facts.{Among, HeadFits, BodyFits, RuleFits}
use Rattle.ground_program.specs.Stable.{weight_of, holds, head_has, step, is_headless}
use Rattle.ground_program.specs.declared.program.Head.{Head}
use Rattle.ground_program.specs.declared.program.Head.TheVariants.{Nothing, One, Choice}
use Rattle.ground_program.specs.declared.program.Body.{Body}
use Rattle.ground_program.specs.declared.program.Body.TheVariants.{All, Sum}
use Rattle.ground_program.specs.declared.program.Rule.{Rule}
use Rattle.ground_program.proofs.Least.{step-append}
use Rattle.ground_program.proofs.FactLaws.{body-weights}
use Rattle.asp_base.proofs.Each.{each-weaker, each-member}
use Rattle.asp_base.proofs.Bools.{and_same}
use Rattle.normalize.specs.private.Replacement.{Near, BodyIn, HeadIn, RulesIn, headless_holds}

-- ---- lists of rules one behind another

pub headless-append : (rules more : List Rule) (X M : Set)
    → headless_holds (rules ++ more) X M ≡ (headless_holds rules X M || headless_holds more X M)
headless-append rules more X M =
    list_any-append (λ rule. is_headless rule.head && holds rule.body X M) rules more

pub Closed-first : (rules more : List Rule) (M Z : Set) → Closed (rules ++ more) M Z
    → Closed rules M Z
Closed-first rules more M Z c a e = c a (step-append rules more M Z a ∙ or_left _ _ e)

pub Closed-second : (rules more : List Rule) (M Z : Set) → Closed (rules ++ more) M Z
    → Closed more M Z
Closed-second rules more M Z c a e = c a (step-append rules more M Z a ∙ or_right _ _ e)

-- ---- what is read

module _ (there X Y M N : Set) (x : Near there X Y) (m : Near there M N) where
  literal-near : (l : Literal) → there (atom_of l) ≡ true
      → literal_holds l X M ≡ literal_holds l Y N
  literal-near (Pos a) h = x a h
  literal-near (Neg a) h = ap not (m a h)

  pub all_hold-near : (lits : List Literal) → AllByRecursion (λ l. there (atom_of l) ≡ true) lits
      → all_hold lits X M ≡ all_hold lits Y N
  all_hold-near [] h = refl
  all_hold-near (l ∷ lits) h = ap₂ ◌&&◌ (literal-near l h.0) (all_hold-near lits h.1)

  pub weight-near : (items : List (Literal × ℤ))
      → AllByRecursion (λ item. there (atom_of item.0) ≡ true) items
      → weight_of items X M ≡ weight_of items Y N
  weight-near [] h = refl
  weight-near (item ∷ items) h =
      ap₂ (λ b s. cond b item.1 (pos 0) +ℤ s) (literal-near item.0 h.0) (weight-near items h.1)

  pub holds-near : (body : Body) → BodyIn there body → holds body X M ≡ holds body Y N
  holds-near (All lits) h = all_hold-near lits h
  holds-near (Sum bound items) h = ap (int_le bound) (weight-near items h)

  pub headless-near : (heads : Set) (rules : List Rule) → RulesIn heads there rules
      → headless_holds rules X M ≡ headless_holds rules Y N
  headless-near heads [] h = refl
  headless-near heads (rule ∷ rules) h =
      ap₂ (λ b s. (is_headless rule.head && b) || s) (holds-near rule.body h.0.body)
      (headless-near heads rules h.1)

pub head-near : (heads M N : Set) → Near heads M N → (head : Head) (a : ℕ) → HeadIn heads head
    → head_has head M a ≡ head_has head N a
head-near heads M N m Nothing a h = refl
head-near heads M N m (One b) a h = refl
head-near heads M N m (Choice as_) a h =
    and_same (members as_ a) (M a) (N a) (λ e. m a (each-member (λ b. heads b ≡ true) as_ a h e))

pub step-near : (heads there X Y M N : Set) → Near there X Y → Near there M N → Near heads M N
    → (rules : List Rule) → RulesIn heads there rules → Same (step rules M X) (step rules N Y)
step-near heads there X Y M N x m k [] h a = refl
step-near heads there X Y M N x m k (rule ∷ rules) h a =
    ap₂ ◌||◌ (ap₂ ◌&&◌ (head-near heads M N k rule.head a h.0.head)
    (holds-near there X Y M N x m rule.body h.0.body))
    (step-near heads there X Y M N x m k rules h.1 a)

-- ---- heads

head-in : (heads : Set) (head : Head) (M : Set) (a : ℕ) → HeadIn heads head
    → head_has head M a ≡ true → heads a ≡ true
head-in heads Nothing M a h e = absurd (true≢false (sym e))
head-in heads (One b) M a h e = subst (λ c. heads c ≡ true) (eqb-true b a e) h
head-in heads (Choice as_) M a h e =
    each-member (λ b. heads b ≡ true) as_ a h ((and_parts _ _ e).0)

pub step-in : (heads there : Set) (rules : List Rule) (M X : Set) → RulesIn heads there rules
    → Within (step rules M X) heads
step-in heads there [] M X f a e = absurd (true≢false (sym e))
step-in heads there (rule ∷ rules) M X f a e =
    ⊎_elim (λ d. head-in heads rule.head M a f.0.head ((and_parts _ _ d).0))
    (λ s. step-in heads there rules M X f.1 a s) (or_cases _ _ e)

-- nothing is derived but heads
pub step-none : (heads there : Set) (rules : List Rule) (M X : Set) → RulesIn heads there rules
    → (a : ℕ) → heads a ≡ false → step rules M X a ≡ false
step-none heads there rules M X f a h =
    false_from_ne_true (step rules M X a)
    (λ e. true≢false (sym (step-in heads there rules M X f a e) ∙ h))

pub weighed-in : (heads there : Set) (rules : List Rule) → RulesIn heads there rules
    → Weighed rules
weighed-in heads there rules f = each-weaker _ _ (λ rule h. h.weights) rules f

-- ---- larger sets

body-wider : (there more : Set) → Within there more → (body : Body) → BodyIn there body
    → BodyIn more body
body-wider there more h (All lits) k = each-weaker _ _ (λ l e. h (atom_of l) e) lits k
body-wider there more h (Sum bound items) k =
    each-weaker _ _ (λ item e. h (atom_of item.0) e) items k

head-wider : (heads more : Set) → Within heads more → (head : Head) → HeadIn heads head
    → HeadIn more head
head-wider heads more h Nothing k = tt
head-wider heads more h (One a) k = h a k
head-wider heads more h (Choice as_) k = each-weaker _ _ (λ a e. h a e) as_ k

pub rules-wider : (heads heads2 there there2 : Set) → Within heads heads2 → Within there there2
    → (rules : List Rule) → RulesIn heads there rules → RulesIn heads2 there2 rules
rules-wider heads heads2 there there2 h k rules f =
    each-weaker _ _
    (λ rule r. record {
      head = head-wider heads heads2 h rule.head r.head;
      body =
          body-wider there there2 k rule.body r.body;
      weights = r.weights;
    }) rules f

-- ---- rules of a program

body-of : (atoms : List ℕ) (body : Body) → BodyFits (Among atoms) body
    → BodyIn (members atoms) body
body-of atoms (All lits) h = h.1
body-of atoms (Sum bound items) h = each-weaker _ _ (λ item k. k.0) items h.2

head-of : (atoms : List ℕ) (head : Head) → HeadFits (Among atoms) head
    → HeadIn (members atoms) head
head-of atoms Nothing h = tt
head-of atoms (One a) h = h
head-of atoms (Choice as_) h = h.1

pub rules-of : (atoms : List ℕ) (rules : List Rule)
    → AllByRecursion (RuleFits (Among atoms)) rules
    → RulesIn (members atoms) (members atoms) rules
rules-of atoms rules f =
    each-weaker _ _
    (λ rule h. record {
      head = head-of atoms rule.head h.0;
      body = body-of atoms rule.body h.1;
      weights =
          body-weights atoms rule.body h.1;
    }) rules f
