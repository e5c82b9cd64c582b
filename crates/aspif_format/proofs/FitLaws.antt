-- The parts of a program fit the fields of statements: its atoms are numbers of atoms.
use Rattle.std.proofs.Common.{ℕ, ◌<◌, ◌≤◌, ◌^◌, List, [], ◌∷◌, arith}
use Rattle.std.specs.List.{AllByRecursion}
use Rattle.asp_base.specs.Literal.{Literal, atom_of}
use Rattle.asp_base.proofs.Each.{each-member, each-weaker}
use Rattle.ground_program.specs.Facts.{IsAtom, Among, FitsWeight, FitsBodyWeight, LiteralsFit, HeadFits, BodyFits, RuleFits, ConditionFits, LevelFits, ShowFits}
use Rattle.rising_numbers.specs.Rising.{RisesFrom}
use Rattle.rising_numbers.proofs.RisingLaws.{members-above}
use Rattle.ground_program.specs.declared.program.Head.{Head}
use Rattle.ground_program.specs.declared.program.Head.TheVariants.{Nothing, One, Choice}
use Rattle.ground_program.specs.declared.program.Body.{Body}
use Rattle.ground_program.specs.declared.program.Body.TheVariants.{All, Sum}
use Rattle.ground_program.specs.declared.program.Rule.{Rule}
use Rattle.ground_program.specs.declared.program.Level.{Level}
use Rattle.ground_program.specs.declared.program.Show.{Show}

pub atom-from_among : (atoms : List ℕ) → RisesFrom 0 atoms → AllByRecursion (λ a. a ≤ 2 ^ 30) atoms → (a : ℕ) → Among atoms a → IsAtom a
atom-from_among atoms rise fit a m = (members-above 0 atoms a rise m, each-member (λ x. x ≤ 2 ^ 30) atoms a fit m)

-- a program's atoms are numbers of atoms
pub all-atoms : (low : ℕ) (atoms : List ℕ) → RisesFrom low atoms → AllByRecursion (λ a. a ≤ 2 ^ 30) atoms → AllByRecursion IsAtom atoms
all-atoms low [] rise fit = tt
all-atoms low (a ∷ atoms) rise fit = ((let above : low < a = rise.0 in omega arith, fit.0), all-atoms a atoms rise.1 fit.1)

-- what fits with one fact of each atom fits with a weaker one
module _ (F G : ℕ → Type 0) (weaker : (a : ℕ) → F a → G a) where
  pub literals-weaker : (lits : List Literal) → LiteralsFit F lits → LiteralsFit G lits
  literals-weaker lits h = each-weaker (λ l. F (atom_of l)) (λ l. G (atom_of l)) (λ l k. weaker (atom_of l) k) lits h

  head-weaker : (head : Head) → HeadFits F head → HeadFits G head
  head-weaker Nothing h = tt
  head-weaker (One a) h = weaker a h
  head-weaker (Choice as_) h = (h.0, each-weaker F G weaker as_ h.1)

  body-weaker : (body : Body) → BodyFits F body → BodyFits G body
  body-weaker (All lits) h = (h.0, literals-weaker lits h.1)
  body-weaker (Sum bound items) h = (h.0, h.1, each-weaker (λ item. F (atom_of item.0) × FitsBodyWeight item.1) (λ item. G (atom_of item.0) × FitsBodyWeight item.1) (λ item k. (weaker (atom_of item.0) k.0, k.1)) items h.2)

  pub rule-weaker : (rule : Rule) → RuleFits F rule → RuleFits G rule
  rule-weaker rule h = (head-weaker rule.head h.0, body-weaker rule.body h.1)

  pub condition-weaker : (lits : List Literal) → ConditionFits F lits → ConditionFits G lits
  condition-weaker lits h = (h.0, literals-weaker lits h.1)

  pub level-weaker : (level : Level) → LevelFits F level → LevelFits G level
  level-weaker level h = each-weaker (λ item. F (atom_of item.0) × FitsWeight item.1) (λ item. G (atom_of item.0) × FitsWeight item.1) (λ item k. (weaker (atom_of item.0) k.0, k.1)) level.items h

  pub show-weaker : (show : Show) → ShowFits F show → ShowFits G show
  show-weaker show h = (h.0, condition-weaker show.condition h.1)
