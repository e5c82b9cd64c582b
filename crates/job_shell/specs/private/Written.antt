-- What writing whole texts leaves of a desk.
use Rattle.std.specs.Prelude.{◌≡◌, ◌≢◌, ℕ, List, [], ◌∷◌, ◌++◌}
use Rattle.asp_base.specs.Desk.{DeskState, Counts, Name}
use Rattle.job_shell.specs.Ran.{IsMade, IsFrontMade, AreMade, AreMadeBefore, OnlyUnder}

-- the text stands under the name, and nothing else has changed
pub record Wrote (old new : DeskState) (name text : List ℕ) : Type 0 where
  pub made : IsMade old new name text
  pub others : (other : List ℕ) → other ≢ name → new.made other ≡ old.made other
  pub rest : new ≡ record old { made = new.made }

-- The writing failed: under the name stands a front of the text, or what stood there, and nothing
-- else has changed.
pub record FailsToWriteText (old new : DeskState) (name text : List ℕ) : Type 0 where
  pub counts : Counts old.write_faults new.write_faults
  pub made : IsFrontMade old new name text
  pub others : (other : List ℕ) → other ≢ name → new.made other ≡ old.made other
  pub rest : new ≡ record old {
    made = new.made;
    writing = new.writing;
    write_faults = new.write_faults;
    write_failed = Name name;
  }

-- each text stands under its name, and nothing else has changed
pub record WroteEach (old new : DeskState) (names texts : List (List ℕ)) : Type 0 where
  pub made : AreMade old new names texts
  pub others : OnlyUnder names old new
  pub rest : new ≡ record old { made = new.made }

-- The writing under the name failed, once the texts under the names before it were whole.
pub record FailsToWriteAt (old new : DeskState) (texts before : List (List ℕ)) (name : List ℕ) :
    Type 0 where
  pub counts : Counts old.write_faults new.write_faults
  pub made : AreMadeBefore old new before name texts
  pub others : OnlyUnder (before ++ (name ∷ [])) old new
  pub rest : new ≡ record old {
    made = new.made;
    writing = new.writing;
    write_faults = new.write_faults;
    write_failed = Name name;
  }
