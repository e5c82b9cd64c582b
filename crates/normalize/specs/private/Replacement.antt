-- Rules that stand for other rules, with new atoms: what the rules derive at once, and what they
-- say of the new atoms. Normal rules stand in this way for choice rules and weight rules:
--   P. Simons, I. Niemelä, T. Soininen. Extending and implementing the stable model semantics.
--     Artificial Intelligence 138, 2002.
--   J. Bomanson, M. Gebser, T. Janhunen. Improving the normalization of weight rules in answer set
--     programs. JELIA 2014.
use Rattle.std.specs.Prelude.{◌≡◌, ℕ, Bool, true, false, not, ◌&&◌, List, ⊤}
use Rattle.std.specs.List.{list_any, AllByRecursion}
use Rattle.asp_base.specs.Literal.{atom_of}
use Rattle.asp_base.specs.Sets.{Set, union, Within}
use Rattle.ground_program.specs.Closed.{HasWeights, Closed}
use Rattle.ground_program.specs.Stable.{holds, step, is_headless}
use Rattle.ground_program.specs.declared.program.Head.{Head}
use Rattle.ground_program.specs.declared.program.Head.TheVariants.{Nothing, One, Choice}
use Rattle.ground_program.specs.declared.program.Body.{Body}
use Rattle.ground_program.specs.declared.program.Body.TheVariants.{All, Sum}
use Rattle.ground_program.specs.declared.program.Rule.{Rule}

-- the same at the atoms that are there
abbrev pub Near : Set → Set → Set → Type 0
Near there X Y = (a : ℕ) → there a ≡ true → X a ≡ Y a

abbrev pub BodyIn : Set → Body → Type 0
BodyIn there (All lits) = AllByRecursion (λ l. there (atom_of l) ≡ true) lits
BodyIn there (Sum bound items) = AllByRecursion (λ item. there (atom_of item.0) ≡ true) items

abbrev pub HeadIn : Set → Head → Type 0
HeadIn there Nothing = ⊤
HeadIn there (One a) = there a ≡ true
HeadIn there (Choice as_) = AllByRecursion (λ a. there a ≡ true) as_

-- The rule has heads of one set and bodies over another, and no negative weights.
pub record RuleIn (heads there : Set) (rule : Rule) : Type 0 where
  pub head : HeadIn heads rule.head
  pub body : BodyIn there rule.body
  pub weights : HasWeights rule.body

abbrev pub RulesIn : Set → Set → List Rule → Type 0
RulesIn heads there rules = AllByRecursion (RuleIn heads there) rules

-- a rule without head has a body that holds
abbrev pub headless_holds : List Rule → Set → Set → Bool
headless_holds rules X M = list_any (λ rule. is_headless rule.head && holds rule.body X M) rules

-- The second atom of each pair is the complement of the first one.
abbrev pub Respects : List (ℕ × ℕ) → Set → Type 0
Respects pairs N = AllByRecursion (λ pair. N pair.1 ≡ not (N pair.0)) pairs

-- The new rules stand for the old ones. Their heads are new atoms or atoms of the program; their
-- bodies are over new atoms and what was known before. Of a set X and a set N, in which negative
-- literals are read, `E X N` is X with the new atoms that follow. N is to have the complements
-- right.
pub record Replaces (atoms known fresh : Set) (before after : List (ℕ × ℕ)) (old new : List Rule)
    (E : Set → Set → Set) : Type 0 where
  pub rules : RulesIn (union fresh atoms) (union fresh known) new
  pub within : Within atoms known
  pub apart : (a : ℕ) → fresh a ≡ true → known a ≡ false
  -- what E is: X outside the new atoms, there what the new rules derive, and no more than any set
  -- has that has X and is closed
  pub outside : (X N : Set) (a : ℕ) → fresh a ≡ false → E X N a ≡ X a
  pub inside : (X N : Set) → Respects after N → (a : ℕ) → fresh a ≡ true
      → step new N (E X N) a ≡ E X N a
  pub least : (X N Z : Set) → Within X Z → Closed new N Z → Within (E X N) Z
  -- outside the new atoms, the new rules derive from it what the old ones derive from X
  pub derives : (X N : Set) → Respects after N → (a : ℕ) → fresh a ≡ false
      → step new N (E X N) a ≡ step old N X a
  pub headless : (X N : Set) → Respects after N
      → headless_holds new (E X N) N ≡ headless_holds old X N
  -- E rests on what was known; N is settled by its part there
  pub near : (X Y N M : Set) → Near known X Y → Near (union fresh known) N M
      → (a : ℕ) → fresh a ≡ true → E X N a ≡ E Y M a
  pub unique : (X Y N M : Set) → Near known X Y → Near known N M
      → Near fresh N (E X N) → Near fresh M (E Y M) → Near fresh N M
  pub settles : (M : Set) → Respects before M
      → (N : Set) × ((a : ℕ) → fresh a ≡ false → N a ≡ M a) × Respects after N
      × Near fresh N (E M N)
  -- complements: those that are right stay so, and those of the new atoms are right where the rules
  -- derive them
  pub grows : (N : Set) → Respects after N → Respects before N
  pub refutes : (N : Set) → Respects before N → Near fresh N (step new N N) → Respects after N
