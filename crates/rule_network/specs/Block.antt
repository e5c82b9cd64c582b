-- Blocks of rules that define new atoms from others, each new atom from those that were there
-- before it: what counts over sets of literals is written as normal rules, in the way of
--   J. Bomanson, M. Gebser, T. Janhunen. Improving the normalization of weight rules in answer set
--     programs. JELIA 2014.
use Rattle.std.specs.Prelude.{◌≡◌, ℕ, ◌+◌, ◌<◌, ◌≤◌, Bool, true, false, not, ◌&&◌, ◌||◌, ◌⊎◌, List, [], ◌∷◌, ◌++◌, ◌^◌, length, map, Option, Some, None}
use Rattle.std.specs.List.{AllByRecursion, sum_by}
use Rattle.asp_base.specs.Literal.{Literal, Pos, Neg, literal_holds}
use Rattle.asp_base.specs.Sets.{Set, members, Within}
use Rattle.ground_program.specs.Dependencies.{positives_of_body}
use Rattle.ground_program.specs.Facts.{IsAtom}
use Rattle.ground_program.specs.Fresh.{Supply, taken, least_free}
use Rattle.ground_program.specs.Occurrences.{atoms_of_head}
use Rattle.ground_program.specs.Size.{rule_size}
use Rattle.ground_program.specs.Stable.{grown}
use Rattle.ground_program.specs.declared.program.Head.{Head}
use Rattle.ground_program.specs.declared.program.Head.TheVariants.{Nothing, One, Choice}
use Rattle.ground_program.specs.declared.program.Body.{Body}
use Rattle.ground_program.specs.declared.program.Body.TheVariants.{All, Sum}
use Rattle.ground_program.specs.declared.program.Rule.{Rule}

-- The numbers that are taken, those of them that are atoms of the block in the order in which they
-- were made, the rules, and the inputs: the atoms outside that may stand positive in bodies, or
-- None where each of them may.
pub record Block : Type 0 where
  pub supply : Supply
  pub made : List ℕ
  pub rules : List Rule
  pub inputs : Option (List ℕ)

-- these atoms, or all
abbrev pub these_or_all : Option (List ℕ) → Set
these_or_all None a = true
these_or_all (Some atoms) a = members atoms a

abbrev pub is_input : Block → Set
is_input net a = these_or_all net.inputs a

-- no atoms and no rules yet
abbrev pub empty_block : Supply → Option (List ℕ) → Block
empty_block supply inputs = record { supply = supply; made = []; rules = []; inputs = inputs }

-- an atom of the block, or one outside it: an atom of the program, or new and given before the
-- block was begun
abbrev pub is_taken : Block → Set
is_taken net a = members (taken net.supply) a

-- A literal that may stand in bodies: a positive one over an atom of the block or an input, a
-- negative one over an atom outside.
abbrev pub Known : Block → Literal → Type 0
Known net (Pos a) = (is_taken net a ≡ true) × ((members net.made a || is_input net a) ≡ true)
Known net (Neg a) = (is_taken net a ≡ true) × (members net.made a ≡ false)

abbrev pub AllKnown : Block → List Literal → Type 0
AllKnown net lits = AllByRecursion (Known net) lits

-- A literal that may stand in the body of a rule for this atom of the block: new atoms rise, so one
-- that was made before has a lesser number.
abbrev pub IsBefore : Block → ℕ → Literal → Type 0
IsBefore net head (Pos a) = Known net (Pos a) × (members net.made a ≡ true → a < head)
IsBefore net head (Neg a) = Known net (Neg a)

abbrev pub AllBefore : Block → ℕ → List Literal → Type 0
AllBefore net head lits = AllByRecursion (IsBefore net head) lits

abbrev pub BodyFitsBlock : Block → ℕ → Body → Type 0
BodyFitsBlock net head (All lits) = AllBefore net head lits
BodyFitsBlock net head (Sum bound items) = ⊥

abbrev pub RuleFitsBlock : Block → Head → Body → Type 0
RuleFitsBlock net Nothing body = ⊥
RuleFitsBlock net (One a) body = (members net.made a ≡ true) × BodyFitsBlock net a body
RuleFitsBlock net (Choice as_) body = ⊥

-- What is true of every block: each atom was new when it was made, and below it all numbers are
-- taken; each rule is for an atom of the block and rests on what was there before.
pub record IsBlock (net : Block) : Type 0 where
  pub atoms : AllByRecursion IsAtom net.made
  pub made : Within (members net.made) (is_taken net)
  pub dense : (a b : ℕ) → members net.made a ≡ true → 0 < b → b < a → is_taken net b ≡ true
  pub rules : AllByRecursion (λ rule. RuleFitsBlock net rule.head rule.body) net.rules

-- ---- what the rules read

-- what a rule for this atom reads positively: an atom of the block that was made before, or an
-- input
abbrev pub IsRead : Block → ℕ → ℕ → Type 0
IsRead net head a = ((members net.made a ≡ true) × (a < head)) ⊎ (is_input net a ≡ true)

-- A rule is for atoms of the block, and each of these depends positively on atoms of the block
-- below it and on inputs alone.
abbrev pub ReadsInputs : Block → Rule → Type 0
ReadsInputs net rule =
    AllByRecursion
    (λ a. (members net.made a ≡ true)
    × AllByRecursion (IsRead net a) (positives_of_body rule.body))
    (atoms_of_head rule.head)

-- ---- what a block adds

-- the number of the next new atom
abbrev pub next_atom : Block → ℕ
next_atom net = least_free (taken net.supply)

abbrev pub with_atom : ℕ → Block → Block
with_atom a net = record net {
  supply = record net.supply { given = net.supply.given ++ (a ∷ []) };
  made = net.made ++ (a ∷ []);
}

abbrev pub with_rule : ℕ → List Literal → Block → Block
with_rule a body net =
    record net { rules = net.rules ++ (record { head = One a; body = All body } ∷ []) }

abbrev pub with_rules : ℕ → List (List Literal) → Block → Block
with_rules a [] net = net
with_rules a (body ∷ bodies) net = with_rules a bodies (with_rule a body net)

-- a new atom with the bodies of its rules
abbrev pub with_cell : List (List Literal) → Block → Block
with_cell bodies net = with_rules (next_atom net) bodies (with_atom (next_atom net) net)

-- how many new atoms were given, to the block and before
abbrev pub drawn : Block → ℕ
drawn net = length net.supply.given

-- atoms and rules with their bodies
abbrev pub block_size : Block → ℕ
block_size net = length net.made + sum_by rule_size net.rules

-- ---- what the atoms of a block say

-- a set without the atoms of the block
abbrev pub outside : Block → Set → Set
outside net X a = X a && not (members net.made a)

-- What the block derives from X, negative literals being read in M:
--   P. Simons, I. Niemelä, T. Soininen. Extending and implementing the stable model semantics.
--     Artificial Intelligence 138, 2002.
unfoldable pub closure : Block → Set → Set → Set
closure net X M = grown net.rules M (outside net X)

-- whether a literal holds where the block has derived what it can
unfoldable pub value : Block → Set → Set → Literal → Bool
value net X M l = literal_holds l (closure net X M) M

abbrev pub values : Block → Set → Set → List Literal → List Bool
values net X M lits = map (value net X M) lits

-- ---- how a block grows

-- Rules were added for new atoms alone: whatever was there stays, and says the same. The atoms that
-- were made are those that were drawn, in order.
pub record Grew (old new : Block) : Type 0 where
  pub taken : Within (is_taken old) (is_taken new)
  pub made : Within (members old.made) (members new.made)
  pub apart : (a : ℕ) → is_taken old a ≡ true → members new.made a ≡ true
      → members old.made a ≡ true
  pub inputs : new.inputs ≡ old.inputs
  pub program : new.supply.atoms ≡ old.supply.atoms
  pub drew : (xs : List ℕ) × (new.made ≡ old.made ++ xs)
      × (new.supply.given ≡ old.supply.given ++ xs)
  pub keeps : (X M : Set) (a : ℕ) → is_taken old a ≡ true → closure new X M a ≡ closure old X M a

-- Rules were added for new atoms alone, and this literal, over what is there now, holds where the
-- test says.
pub record Defines (old new : Block) (l : Literal) (test : Set → Set → Bool) : Type 0 where
  pub grew : Grew old new
  pub known : Known new l
  pub says : (X M : Set) → value new X M l ≡ test X M

-- the same of a list of literals and their values
pub record DefinesAll (old new : Block) (lits : List Literal) (tests : Set → Set → List Bool)
    : Type 0 where
  pub grew : Grew old new
  pub known : AllKnown new lits
  pub says : (X M : Set) → values new X M lits ≡ tests X M

-- at most so many atoms, and so much in size
pub record Adds (atoms cost : ℕ) (old new : Block) : Type 0 where
  pub program : new.supply.atoms ≡ old.supply.atoms
  pub drawn : drawn new ≤ drawn old + atoms
  pub size : block_size new ≤ block_size old + cost

-- so many new atoms can still be given
abbrev pub HasRoom : ℕ → Block → Type 0
HasRoom atoms net = length net.supply.atoms + drawn net + atoms ≤ 2 ^ 30
