-- What a job takes from its desk.
use Rattle.std.specs.Prelude.{◌≡◌, ◌≢◌, ◌<◌, ◌⊎◌, ⊤, ℕ, suc, ◌^◌, nat_lt, List, [], ◌∷◌, length, map, None, Some, IfSome, cond}
use Rattle.std.specs.Borrow.{Bor}
use Rattle.std.specs.List.{AllByRecursion}
use Rattle.std.specs.declared.option.Option.{Option}
use Rattle.std.specs.Io.KnownBytes.{IsAtEnd}
use Rattle.asp_base.specs.Desk.{DeskState, Rose, Name}

-- a text has at most so many bytes
abbrev pub text_limit : ℕ
text_limit = 2 ^ 30

-- ---- one name

-- the reading of the name failed
pub record FailsAtRead (old new : DeskState) (name : List ℕ) : Type 0 where
  pub rose : Rose old.read_faults new.read_faults
  pub place : new.read_failed ≡ Name name

-- the reading of the name gave more bytes than the limit
pub record IsTooLong (new : DeskState) (name : List ℕ) : Type 0 where
  pub given : text_limit < new.given
  pub reading : new.reading ≡ Some name

-- ---- several names, in their order

-- the names that are lent
abbrev pub names_of : List (Bor (List ℕ)) → List (List ℕ)
names_of names = map (λ name. name.now) names

-- names that all differ
abbrev pub AllDiffer : List (List ℕ) → Type 0
AllDiffer [] = ⊤
AllDiffer (name ∷ names) = AllByRecursion (λ other. name ≢ other) names × AllDiffer names

-- Where the desk tells what all these names hold, this is so of their texts.
abbrev pub IfHeld : DeskState → List (List ℕ) → (List (List ℕ) → Type 0) → Type 0
IfHeld old [] Fact = Fact []
IfHeld old (name ∷ names) Fact = IfSome (old.held name) (λ text.
    IfHeld old names (λ texts. Fact (text ∷ texts)))

-- the first text of more bytes than the limit, by its place; the first of these texts has this one
abbrev pub first_too_long : ℕ → List (List ℕ) → Option ℕ
first_too_long place [] = None
first_too_long place (text ∷ texts) =
    cond (nat_lt text_limit (length text)) (Some place) (first_too_long (suc place) texts)

-- The file is one of these names, the first of which has this place, and this is so of the names
-- before it and of its own.
abbrev pub AtPlace : ℕ → List (List ℕ) → ℕ → (List (List ℕ) → List ℕ → Type 0) → Type 0
AtPlace place [] file Fact = ⊥
AtPlace place (name ∷ names) file Fact =
    ((file ≡ place) × Fact [] name)
    ⊎ AtPlace (suc place) names file (λ before. Fact (name ∷ before))

-- the last of some names
abbrev pub last_of : List (List ℕ) → Option (List ℕ)
last_of [] = None
last_of (name ∷ []) = Some name
last_of (name ∷ next ∷ names) = last_of (next ∷ names)

-- The texts were read to their ends, without a fault: the last of the names is being read, and is
-- at its end.
pub record ReadToEnds (names : List (List ℕ)) (old new : DeskState) : Type 0 where
  pub last : IfSome (last_of names) (λ name. (new.reading ≡ Some name) × IsAtEnd new.left)
  pub held : new.held ≡ old.held
  pub read_faults : new.read_faults ≡ old.read_faults
