-- What reading a whole content leaves.
use Rattle.std.specs.Prelude.{◌≡◌, ℕ, ◌≤◌, List, [], length, Some, IfSome}
use Rattle.std.specs.Io.KnownBytes.{Consumes, IsAtEnd}
use Rattle.asp_base.specs.Desk.{DeskState}

-- reading changes nothing of what is held, and nothing of the side that writes
pub record TakeKeeps (old new : DeskState) : Type 0 where
  pub held : new.held ≡ old.held
  pub made : new.made ≡ old.made
  pub writing : new.writing ≡ old.writing
  pub said : new.said ≡ old.said
  pub write_faults : new.write_faults ≡ old.write_faults
  pub write_failed : new.write_failed ≡ old.write_failed

-- the reading of the name gave this text, without a fault
pub record Took (old new : DeskState) (name : List ℕ) (text : List ℕ) : Type 0 where
  pub bytes : Consumes (old.held name) new.left text
  pub given : new.given ≡ length text
  pub reading : new.reading ≡ Some name
  pub read_faults : new.read_faults ≡ old.read_faults
  pub read_failed : new.read_failed ≡ old.read_failed

-- the whole content was taken
pub record TookAll (old new : DeskState) (name : List ℕ) (limit : ℕ) (text : List ℕ) : Type 0 where
  pub whole : IfSome (old.held name) (λ content. text ≡ content)
  pub end : IfSome (old.held name) (λ _. new.left ≡ Some [])
  pub nothing_left : IsAtEnd new.left
  pub within : length text ≤ limit
  pub took : Took old new name text
