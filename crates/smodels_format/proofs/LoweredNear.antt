-- What a program says of sets depends on its own atoms alone.
use Rattle.asp_base.proofs.Each.{each-member}
use Rattle.std.proofs.Common.{◌≡◌, refl, sym, ◌∙◌, ap, ap₂, subst, ℕ, ℤ, pos, ◌+ℤ◌, int_le, Bool, true, false, cond, not, ◌&&◌, ◌||◌, List, [], ◌∷◌}
use Rattle.std.specs.List.{list_any, AllByRecursion}
use Rattle.std.proofs.lemmas.Bool.{and_parts, true≢false, eqb-true}
use Rattle.asp_base.specs.Literal.{Literal, Pos, Neg, atom_of, literal_holds, all_hold}
use Rattle.asp_base.specs.Sets.{Set, members, Same}
use Rattle.asp_base.proofs.Bools.{and_same}
use Rattle.ground_program.specs.Facts.{Among, LiteralsFit, HeadFits, BodyFits, RuleFits}
use Rattle.ground_program.specs.Stable.{weight_of, holds, head_has, step, is_headless}
use Rattle.ground_program.specs.declared.program.Head.{Head}
use Rattle.ground_program.specs.declared.program.Head.TheVariants.{Nothing, One, Choice}
use Rattle.ground_program.specs.declared.program.Body.{Body}
use Rattle.ground_program.specs.declared.program.Body.TheVariants.{All, Sum}
use Rattle.ground_program.specs.declared.program.Rule.{Rule}

-- the same at the atoms of a list
abbrev pub Near : List ℕ → Set → Set → Type 0
Near atoms X Y = (a : ℕ) → members atoms a ≡ true → X a ≡ Y a

-- a body without head holds
abbrev pub headless_holds : List Rule → Set → Set → Bool
headless_holds rules X M = list_any (λ rule. is_headless rule.head && holds rule.body X M) rules

pub Near-sym : (atoms : List ℕ) (X Y : Set) → Near atoms X Y → Near atoms Y X
Near-sym atoms X Y h a m = sym (h a m)

module _ (atoms : List ℕ) (X Y M N : Set) (x : Near atoms X Y) (m : Near atoms M N) where
  literal-near : (l : Literal) → Among atoms (atom_of l) → literal_holds l X M ≡ literal_holds l Y N
  literal-near (Pos a) h = x a h
  literal-near (Neg a) h = ap not (m a h)

  pub all_hold-near : (lits : List Literal) → LiteralsFit (Among atoms) lits → all_hold lits X M ≡ all_hold lits Y N
  all_hold-near [] h = refl
  all_hold-near (l ∷ lits) h = ap₂ ◌&&◌ (literal-near l h.0) (all_hold-near lits h.1)

  pub weight-near : (Q : ℤ → Type 0) (items : List (Literal × ℤ)) → AllByRecursion (λ item. Among atoms (atom_of item.0) × Q item.1) items → weight_of items X M ≡ weight_of items Y N
  weight-near Q [] h = refl
  weight-near Q (item ∷ items) h = ap₂ (λ b s. cond b item.1 (pos 0) +ℤ s) (literal-near item.0 h.0.0) (weight-near Q items h.1)

  pub holds-near : (body : Body) → BodyFits (Among atoms) body → holds body X M ≡ holds body Y N
  holds-near (All lits) h = all_hold-near lits h.1
  holds-near (Sum bound items) h = ap (int_le bound) (weight-near _ items h.2)

  pub head-near : (head : Head) (a : ℕ) → HeadFits (Among atoms) head → head_has head M a ≡ head_has head N a
  head-near Nothing a h = refl
  head-near (One b) a h = refl
  head-near (Choice as_) a h = and_same (members as_ a) (M a) (N a) (λ e. m a (each-member (Among atoms) as_ a h.1 e))

  pub step-near : (rules : List Rule) → AllByRecursion (RuleFits (Among atoms)) rules → Same (step rules M X) (step rules N Y)
  step-near [] h a = refl
  step-near (rule ∷ rules) h a = ap₂ ◌||◌ (ap₂ ◌&&◌ (head-near rule.head a h.0.0) (holds-near rule.body h.0.1)) (step-near rules h.1 a)

  pub headless-near : (rules : List Rule) → AllByRecursion (RuleFits (Among atoms)) rules → headless_holds rules X M ≡ headless_holds rules Y N
  headless-near [] h = refl
  headless-near (rule ∷ rules) h = ap₂ (λ b s. (is_headless rule.head && b) || s) (holds-near rule.body h.0.1) (headless-near rules h.1)

-- heads are atoms of the list
pub head-outside : (atoms : List ℕ) (head : Head) (M : Set) (a : ℕ) → HeadFits (Among atoms) head → members atoms a ≡ false → head_has head M a ≡ false
head-outside atoms head M a h f = go (head_has head M a) refl
  where
    among : (head : Head) → HeadFits (Among atoms) head → head_has head M a ≡ true → members atoms a ≡ true
    among Nothing h e = absurd (true≢false (sym e))
    among (One b) h e = subst (λ c. members atoms c ≡ true) (eqb-true b a e) h
    among (Choice as_) h e = each-member (Among atoms) as_ a h.1 ((and_parts _ _ e).0)

    go : (b : Bool) → head_has head M a ≡ b → b ≡ false
    go true e = absurd (true≢false (sym (among head h e) ∙ f))
    go false e = refl
