-- The parts that smodels text can say: each rule has a line, its literals stand with the negative ones first, and its numbers fit.
use Rattle.std.proofs.Common.{◌≡◌, ℕ, ℤ, true, List, ◌++◌, map}
use Rattle.std.specs.List.{AllByRecursion}
use Rattle.asp_base.specs.Literal.{Literal, Pos, Neg}
use Rattle.ground_program.specs.Facts.{IsAtom, IsShort, FitsWeight, FitsBodyWeight}
use Rattle.ground_program.specs.declared.program.Head.{Head}
use Rattle.ground_program.specs.declared.program.Head.TheVariants.{Nothing, One, Choice}
use Rattle.ground_program.specs.declared.program.Body.{Body}
use Rattle.ground_program.specs.declared.program.Body.TheVariants.{All, Sum}
use Rattle.asp_scan.specs.Feeds.{HasNoFeed}
use Rattle.smodels_format.specs.Parts.{Parts}
use Rattle.smodels_format.specs.Written.{literals_of}
use Rattle.smodels_format.specs.Writable.{is_writable_name}

-- negative literals, and then positive ones
abbrev pub ordered : List ℕ → List ℕ → List Literal
ordered negs poss = map (λ a. Neg a) negs ++ map (λ a. Pos a) poss

-- at most so many as a statement may have, the negative ones first
pub record LiteralsInOrder (lits : List Literal) : Type 0 where
  pub negs : List ℕ
  pub poss : List ℕ
  pub is : lits ≡ ordered negs poss
  pub negs_fit : AllByRecursion IsAtom negs
  pub poss_fit : AllByRecursion IsAtom poss
  pub short : IsShort lits

-- literals in this order, with weights that are not negative
pub record ItemsInOrder (items : List (Literal × ℤ)) : Type 0 where
  pub literals : LiteralsInOrder (literals_of items)
  pub weights : AllByRecursion (λ item. FitsBodyWeight item.1) items

-- a basic rule, a weight rule or a choice
abbrev pub HasLine : Head → Body → Type 0
HasLine (One a) (All lits) = IsAtom a × LiteralsInOrder lits
HasLine (One a) (Sum bound items) = IsAtom a × FitsWeight bound × ItemsInOrder items
HasLine (Choice as_) (All lits) = IsShort as_ × AllByRecursion IsAtom as_ × LiteralsInOrder lits
HasLine (Choice as_) (Sum bound items) = ⊥
HasLine Nothing body = ⊥

-- an atom, and a name that ends its line
pub record SymbolFits (symbol : ℕ × List ℕ) : Type 0 where
  pub atom : IsAtom symbol.0
  pub feeds : HasNoFeed symbol.1
  pub name : is_writable_name symbol.1 ≡ true

pub record PartsFit (parts : Parts) : Type 0 where
  pub rules : AllByRecursion (λ rule. HasLine rule.head rule.body) parts.rules
  pub sums : AllByRecursion ItemsInOrder parts.sums
  pub symbols : AllByRecursion SymbolFits parts.symbols
  pub plus : AllByRecursion IsAtom parts.plus
  pub minus : AllByRecursion IsAtom parts.minus
