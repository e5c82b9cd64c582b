-- Normalization under way: the rules so far, the numbers of new atoms, and the complements of
-- atoms.
use Rattle.std.specs.Prelude.{◌≡◌, ◌⊎◌, ℕ, ◌+◌, ◌<◌, ◌≤◌, ◌^◌, ◌==◌, Bool, true, false, List, [], ◌∷◌, ◌++◌, length}
use Rattle.std.specs.List.{AllByRecursion, IsDistinct, sum_by}
use Rattle.asp_base.specs.Literal.{Literal, Neg, atom_of, all_hold}
use Rattle.asp_base.specs.Sets.{Set, members, union, Same}
use Rattle.ground_program.specs.Facts.{IsAtom}
use Rattle.ground_program.specs.Fresh.{Supply, taken}
use Rattle.ground_program.specs.Normal.{AreNormal, IsNormalHead, IsNormalBody}
use Rattle.ground_program.specs.Room.{sum_measure}
use Rattle.ground_program.specs.Size.{rule_size}
use Rattle.ground_program.specs.Stable.{holds}
use Rattle.ground_program.specs.declared.program.Head.{Head}
use Rattle.ground_program.specs.declared.program.Head.TheVariants.{Nothing, One, Choice}
use Rattle.ground_program.specs.declared.program.Body.{Body}
use Rattle.ground_program.specs.declared.program.Body.TheVariants.{All, Sum}
use Rattle.ground_program.specs.declared.program.Rule.{Rule}
use Rattle.weight_rules.specs.declared.sum.Reach.{Reach}
use Rattle.weight_rules.specs.declared.sum.Reach.TheVariants.{Always, Never, By}
use Rattle.normalize.specs.private.Replacement.{Replaces}

pub record Stage : Type 0 where
  pub rules : List Rule
  pub supply : Supply
  pub pairs : List (ℕ × ℕ)

abbrev pub atoms_of : Stage → Set
atoms_of s a = members s.supply.atoms a

abbrev pub known : Stage → Set
known s a = members (taken s.supply) a

-- the atoms of complements are known
abbrev pub PairsIn : Set → List (ℕ × ℕ) → Type 0
PairsIn there pairs = AllByRecursion (λ pair. (there pair.0 ≡ true) × (there pair.1 ≡ true)) pairs

-- What is true of every stage. No atom has two complements, and below a number that was given all
-- are taken.
pub record IsStage (s : Stage) : Type 0 where
  pub pairs : PairsIn (known s) s.pairs
  pub once : IsDistinct (λ p q. p.0 == q.0) s.pairs
  pub atoms : (a : ℕ) → known s a ≡ true → IsAtom a
  pub dense : (a b : ℕ) → members s.supply.given b ≡ true → 0 < a → a < b → known s a ≡ true

-- where nothing was made yet
abbrev pub start : List ℕ → Stage
start atoms = record { rules = []; supply = record { atoms = atoms; given = [] }; pairs = [] }

-- one more rule
abbrev pub with_rule : Rule → Stage → Stage
with_rule rule s = record s { rules = s.rules ++ (rule ∷ []) }

abbrev pub rule_over : Head → List Literal → Rule
rule_over head lits = record { head = head; body = All lits }

-- the literals are over what is known
abbrev pub LitsKnown : Stage → List Literal → Type 0
LitsKnown s lits = AllByRecursion (λ l. known s (atom_of l) ≡ true) lits

-- the pair of an atom and its complement is among these
abbrev pub Listed : List (ℕ × ℕ) → ℕ → ℕ → Type 0
Listed [] a x = ⊥
Listed (pair ∷ pairs) a x = ((pair.0 ≡ a) × (pair.1 ≡ x)) ⊎ Listed pairs a x

-- no pair of the atom is among these
abbrev pub IsUnlisted : List (ℕ × ℕ) → ℕ → Type 0
IsUnlisted pairs a = AllByRecursion (λ pair. (a == pair.0) ≡ false) pairs

-- a choice without atoms
abbrev pub is_idle : Head → Bool
is_idle Nothing = false
is_idle (One a) = false
is_idle (Choice []) = true
is_idle (Choice (a ∷ as_)) = false

abbrev pub IsNormal : Rule → Type 0
IsNormal rule = IsNormalHead rule.head × IsNormalBody rule.body

abbrev pub IsSum : Body → Type 0
IsSum (All lits) = ⊥
IsSum (Sum bound items) = Unit {0}

-- Rules were added that stand for the old ones, with new atoms.
pub record Turns (old : List Rule) (s t : Stage) : Type 0 where
  pub new : List Rule
  pub fresh : Set
  pub extend : Set → Set → Set
  pub rules : t.rules ≡ s.rules ++ new
  pub atoms : t.supply.atoms ≡ s.supply.atoms
  pub normal : AreNormal new
  pub taken : Same (known t) (union fresh (known s))
  pub pairs : PairsIn (known t) t.pairs
  pub replaces : Replaces (atoms_of s) (known s) fresh s.pairs t.pairs old new extend

-- Rules were added for new atoms alone, and with these the literals hold where the body does.
pub record Answers (body : Body) (lits : List Literal) (s t : Stage) : Type 0 where
  pub turns : Turns [] s t
  pub there : AllByRecursion (λ l. known t (atom_of l) ≡ true) lits
  pub says : (X N : Set) → all_hold lits (turns.extend X N) N ≡ holds body X N

-- ---- choices

abbrev pub choice_of : List ℕ → List Literal → Rule
choice_of as_ lits = rule_over (Choice as_) lits

-- a :- B, not x
abbrev pub choosing : ℕ → ℕ → List Literal → Rule
choosing a x lits = rule_over (One a) (lits ++ (Neg x ∷ []))

-- x :- not a
abbrev pub complement_rule : ℕ → ℕ → Rule
complement_rule a x = rule_over (One x) (Neg a ∷ [])

-- ---- sizes

-- the new atoms, and the rules with their bodies
abbrev pub stage_size : Stage → ℕ
stage_size s = length s.supply.given + sum_by rule_size s.rules

-- So much can still be added: the numbers of atoms suffice.
abbrev pub HasRoomFor : ℕ → Stage → Type 0
HasRoomFor n s = length s.supply.atoms + stage_size s + n ≤ 2 ^ 30

-- at most so much was added
abbrev pub Spends : ℕ → Stage → Stage → Type 0
Spends n s t = stage_size t ≤ stage_size s + n

-- ---- sums

-- what the answer to a sum may take
abbrev pub sum_room : Body → ℕ
sum_room (All lits) = 0
sum_room (Sum bound items) = sum_measure bound items

-- the literals that answer a sum, where a rule over it is not left out
abbrev pub reach_lits : Reach → List Literal
reach_lits Always = []
reach_lits Never = []
reach_lits (By l) = l ∷ []

-- How a sum is answered: by no literal; a rule over it by nothing; or by one literal.
abbrev pub SumAnswers : Body → Stage → Stage → Reach → Type 0
SumAnswers body s t Always = Answers body [] s t
SumAnswers body s t Never =
    (t ≡ s) × ((head : Head) → Turns (record { head = head; body = body } ∷ []) s t)
SumAnswers body s t (By l) = Answers body (l ∷ []) s t
