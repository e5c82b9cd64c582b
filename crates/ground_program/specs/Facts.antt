-- What is true of every program.
use Rattle.std.specs.Prelude.{◌≡◌, ℕ, ℤ, pos, neg_ℤ, ◌≤ℤ◌, ◌<ℤ◌, ◌<◌, ◌≤◌, ◌^◌, ◌-◌, ◌≢◌, true, List, [], ◌∷◌, length, ⊤}
use Rattle.std.specs.List.{AllByRecursion}
use Rattle.asp_base.specs.Literal.{Literal, atom_of}
use Rattle.asp_base.specs.Sets.{members}
use Rattle.rising_numbers.specs.Rising.{RisesFrom}
use Rattle.ground_program.specs.Ground.{Ground}
use Rattle.ground_program.specs.Draft.{Draft}
use Rattle.ground_program.specs.declared.program.Head.{Head}
use Rattle.ground_program.specs.declared.program.Head.TheVariants.{Nothing, One, Choice}
use Rattle.ground_program.specs.declared.program.Body.{Body}
use Rattle.ground_program.specs.declared.program.Body.TheVariants.{All, Sum}
use Rattle.ground_program.specs.declared.program.Rule.{Rule}
use Rattle.ground_program.specs.declared.program.Level.{Level}
use Rattle.ground_program.specs.declared.program.Show.{Show}

-- the numbers that priorities and nodes have: those of 32 bits
abbrev pub IsPriority : ℤ → Type 0
IsPriority p = (neg_ℤ (pos (2 ^ 31)) ≤ℤ p) × (p <ℤ pos (2 ^ 31))

-- priorities fall
abbrev pub FallsFrom : ℤ → List Level → Type 0
FallsFrom high [] = ⊤
FallsFrom high (level ∷ levels) = (level.priority <ℤ high) × FallsFrom level.priority levels

-- the numbers that atoms have
abbrev pub IsAtom : ℕ → Type 0
IsAtom a = (0 < a) × (a ≤ 2 ^ 30)

-- one of the program's atoms
abbrev pub Among : List ℕ → ℕ → Type 0
Among atoms a = members atoms a ≡ true

-- at most as many entries as a statement may have
abbrev pub IsShort : {A : Type 0} → List A → Type 0
IsShort xs = length xs ≤ 2 ^ 24

-- the weights of levels, and bounds
abbrev pub FitsWeight : ℤ → Type 0
FitsWeight w = (neg_ℤ (pos (2 ^ 31 - 1)) ≤ℤ w) × (w ≤ℤ pos (2 ^ 31 - 1))

-- the weights of bodies
abbrev pub FitsBodyWeight : ℤ → Type 0
FitsBodyWeight w = (pos 0 ≤ℤ w) × (w ≤ℤ pos (2 ^ 31 - 1))

-- What follows asks a fact of each atom that occurs: that it is an atom's number, or one of a
-- program's atoms.
module _ (Fits : ℕ → Type 0) where
  abbrev pub LiteralsFit : List Literal → Type 0
  LiteralsFit lits = AllByRecursion (λ l. Fits (atom_of l)) lits

  abbrev pub HeadFits : Head → Type 0
  HeadFits Nothing = ⊤
  HeadFits (One a) = Fits a
  HeadFits (Choice as_) = IsShort as_ × AllByRecursion Fits as_

  abbrev pub BodyFits : Body → Type 0
  BodyFits (All lits) = IsShort lits × LiteralsFit lits
  BodyFits (Sum bound items) =
      FitsWeight bound × IsShort items
      × AllByRecursion (λ item. Fits (atom_of item.0) × FitsBodyWeight item.1) items

  abbrev pub RuleFits : Rule → Type 0
  RuleFits rule = HeadFits rule.head × BodyFits rule.body

  abbrev pub ConditionFits : List Literal → Type 0
  ConditionFits lits = IsShort lits × LiteralsFit lits

  abbrev pub LevelFits : Level → Type 0
  LevelFits level = AllByRecursion (λ item. Fits (atom_of item.0) × FitsWeight item.1) level.items

  abbrev pub ShowFits : Show → Type 0
  ShowFits show = AllByRecursion (λ byte. byte ≢ 10) show.name × ConditionFits show.condition

pub record IsProgram (P : Ground) : Type 0 where
  pub atoms_rise : RisesFrom 0 P.atoms
  pub atoms_fit : AllByRecursion (λ a. a ≤ 2 ^ 30) P.atoms
  pub rules : AllByRecursion (RuleFits (Among P.atoms)) P.rules
  pub required : LiteralsFit (Among P.atoms) P.required
  pub edges : AllByRecursion (λ edge. ConditionFits (Among P.atoms) edge.condition) P.edges
  pub nodes : AllByRecursion (λ edge. IsPriority edge.from × IsPriority edge.to) P.edges
  pub levels : AllByRecursion (LevelFits (Among P.atoms)) P.levels
  pub priorities : FallsFrom (pos (2 ^ 31)) P.levels
  pub priorities_fit : AllByRecursion (λ level. IsPriority level.priority) P.levels
  pub shows : AllByRecursion (ShowFits (Among P.atoms)) P.shows

-- what is true of all that was added to a program
pub record IsDraft (d : Draft) : Type 0 where
  pub rules : AllByRecursion (RuleFits IsAtom) d.rules
  pub required : LiteralsFit IsAtom d.required
  pub edges : AllByRecursion (λ edge. ConditionFits IsAtom edge.condition) d.edges
  pub nodes : AllByRecursion (λ edge. IsPriority edge.from × IsPriority edge.to) d.edges
  pub levels : AllByRecursion (LevelFits IsAtom) d.levels
  pub priorities : AllByRecursion (λ level. IsPriority level.priority) d.levels
  pub shows : AllByRecursion (ShowFits IsAtom) d.shows
  pub externals : AllByRecursion (λ set. IsAtom set.0) d.externals
