-- How a job ends, and what it leaves of its desk.
use Rattle.std.specs.Prelude.{◌≡◌, ◌≢◌, ◌⊎◌, ⊤, ◌↔◌, ℕ, suc, Bool, true, false, List, [], ◌∷◌, ◌++◌, length, take, None, Some, IfSome, if◌then◌else◌}
use Rattle.std.specs.List.{AllByRecursion}
use Rattle.std.specs.Io.KnownBytes.{Appends}
use Rattle.asp_base.specs.Desk.{DeskState, Rose, Name, Output}
use Rattle.asp_base.specs.Take.{TakeKeeps}
use Rattle.job_shell.specs.Reads.{FailsAtRead, IsTooLong, IfHeld, first_too_long, AtPlace, ReadToEnds}
use Rattle.job_shell.specs.declared.ended.Ended.{Ended}
use Rattle.job_shell.specs.declared.ended.Ended.TheVariants.{Answered, TooLong, ReadFault, WriteFault, Memory}

-- What a command promises: which answer some texts call for, with what is made and said; and the
-- answers with which something is made, and with which something is said.
pub record Promise (A : Type 0) : Type 1 where
  pub answers : List (List ℕ) → A → List (List ℕ) → List ℕ → Type 0
  pub makes : A → Bool
  pub says : A → Bool

-- The texts, none of which is too long, call for this answer, with what is made and said.
pub record CallFor {A : Type 0} (promise : Promise A) (texts : List (List ℕ)) (answer : A)
    (made : List (List ℕ)) (said : List ℕ) : Type 0 where
  pub within : first_too_long 1 texts ≡ None
  pub answers : promise.answers texts answer made said
  pub silent : promise.says answer ≡ false → said ≡ []

-- Where the desk tells what all these names hold, their texts call for this answer, and this is so
-- of what is made and said with it.
abbrev pub Replied : {A : Type 0} → Promise A → List (List ℕ) → DeskState → A
    → (List (List ℕ) → List ℕ → Type 0) → Type 0
Replied promise reads old answer Fact = IfHeld old reads (λ texts.
    (made : List (List ℕ)) × (said : List ℕ) ×
    CallFor promise texts answer made said × Fact made said)

-- ---- what is made

-- the names that are written with an answer
abbrev pub outputs_with : {A : Type 0} → Promise A → List (List ℕ) → A → List (List ℕ)
outputs_with promise writes answer = if promise.makes answer then writes else []

-- where the desk tells what is made under the name, just this text stands there
abbrev pub IsMade : DeskState → DeskState → List ℕ → List ℕ → Type 0
IsMade old new name text = IfSome (old.made name) (λ _. new.made name ≡ Some (Some text))

-- where the desk tells what is made under the name, a front of this text stands there, or what
-- stood there before
abbrev pub IsFrontMade : DeskState → DeskState → List ℕ → List ℕ → Type 0
IsFrontMade old new name text = IfSome (old.made name) (λ _.
    (new.made name ≡ old.made name) ⊎ ((n : ℕ) × (new.made name ≡ Some (Some (take n text)))))

-- each of these texts stands under its name, and there are as many of both
abbrev pub AreMade : DeskState → DeskState → List (List ℕ) → List (List ℕ) → Type 0
AreMade old new [] [] = ⊤
AreMade old new [] (text ∷ texts) = ⊥
AreMade old new (name ∷ names) [] = ⊥
AreMade old new (name ∷ names) (text ∷ texts) =
    IsMade old new name text × AreMade old new names texts

-- the first of these texts stand under the names before, and a front of the next under this name
abbrev pub AreMadeBefore : DeskState → DeskState → List (List ℕ) → List ℕ → List (List ℕ)
    → Type 0
AreMadeBefore old new before name [] = ⊥
AreMadeBefore old new [] name (text ∷ texts) = IsFrontMade old new name text
AreMadeBefore old new (first ∷ before) name (text ∷ texts) =
    IsMade old new first text × AreMadeBefore old new before name texts

-- under no other name than these anything changed
abbrev pub OnlyUnder : List (List ℕ) → DeskState → DeskState → Type 0
OnlyUnder names old new =
    (other : List ℕ) → AllByRecursion (λ name. other ≢ name) names → new.made other ≡ old.made other

-- ---- the ends, and what each leaves

-- The texts were read to their ends, just what they call for is made and said, and no call failed.
pub record Done {A : Type 0} (promise : Promise A) (reads writes : List (List ℕ))
    (old new : DeskState) (answer : A) : Type 0 where
  pub read : ReadToEnds reads old new
  pub told : Replied promise reads old answer (λ made said.
      AreMade old new (outputs_with promise writes answer) made × Appends old.said new.said said)
  pub others : OnlyUnder (outputs_with promise writes answer) old new
  pub silent : promise.says answer ≡ false → new.said ≡ old.said
  pub writing : new.writing ≡ old.writing
  pub write_faults : new.write_faults ≡ old.write_faults

-- The saying failed: the texts were read and all is made, and a front of what they call for is
-- said.
pub record SayingFails {A : Type 0} (promise : Promise A) (reads writes : List (List ℕ))
    (old new : DeskState) : Type 0 where
  pub rose : Rose old.write_faults new.write_faults
  pub place : new.write_failed ≡ Output
  pub answer : A
  pub says : promise.says answer ≡ true
  pub read : ReadToEnds reads old new
  pub told : Replied promise reads old answer (λ made said.
      AreMade old new (outputs_with promise writes answer) made ×
      ((n : ℕ) × Appends old.said new.said (take n said)))
  pub others : OnlyUnder (outputs_with promise writes answer) old new
  pub writing : new.writing ≡ old.writing

-- The writing under the name failed, behind these names: the texts were read, what they call for is
-- made under the names before it, and a front under its own; no later one was begun, and nothing is
-- said.
pub record WritingFails {A : Type 0} (promise : Promise A) (reads : List (List ℕ))
    (old new : DeskState) (before : List (List ℕ)) (name : List ℕ) : Type 0 where
  pub rose : Rose old.write_faults new.write_faults
  pub place : new.write_failed ≡ Name name
  pub answer : A
  pub makes : promise.makes answer ≡ true
  pub read : ReadToEnds reads old new
  pub told : Replied promise reads old answer (λ made said. AreMadeBefore old new before name made)
  pub others : OnlyUnder (before ++ (name ∷ [])) old new
  pub said : new.said ≡ old.said

-- The text of the file is the first that is too long. No call failed, and nothing is made or said.
pub record Exceeds (reads : List (List ℕ)) (old new : DeskState) (file : ℕ) : Type 0 where
  pub told : IfHeld old reads (λ texts. first_too_long 1 texts ≡ Some file)
  pub place : AtPlace 1 reads file (λ before name. IsTooLong new name)
  pub read_faults : new.read_faults ≡ old.read_faults
  pub keeps : TakeKeeps old new

-- Memory ran out. No call failed, and nothing is made or said.
pub record RunsOut (old new : DeskState) : Type 0 where
  pub read_faults : new.read_faults ≡ old.read_faults
  pub keeps : TakeKeeps old new

-- an end before anything is made or said
abbrev pub Stopped : {A : Type 0} → List (List ℕ) → DeskState → DeskState → Ended A → Type 0
Stopped reads old new (Answered answer) = ⊥
Stopped reads old new (TooLong file) = Exceeds reads old new file
Stopped reads old new (ReadFault file) =
    AtPlace 1 reads file (λ before name. FailsAtRead old new name) × TakeKeeps old new
Stopped reads old new (WriteFault file) = ⊥
Stopped reads old new Memory = RunsOut old new

-- each end, and what it leaves
abbrev pub Ran : {A : Type 0} → Promise A → List (List ℕ) → List (List ℕ) → DeskState → DeskState
    → Ended A → Type 0
Ran promise reads writes old new (Answered answer) = Done promise reads writes old new answer
Ran promise reads writes old new (WriteFault file) =
    ((file ≡ 0) × SayingFails promise reads writes old new)
    ⊎ AtPlace (suc (length reads)) writes file (WritingFails promise reads old new)
Ran promise reads writes old new ended = Stopped reads old new ended

-- ---- without a fault

-- no count of faults rose
pub record NoFault (old new : DeskState) : Type 0 where
  pub reading : ¬ Rose old.read_faults new.read_faults
  pub writing : ¬ Rose old.write_faults new.write_faults

-- the end that some texts call for
abbrev pub EndsAs : {A : Type 0} → Promise A → List (List ℕ) → Ended A → Type 0
EndsAs promise texts (Answered answer) =
    (made : List (List ℕ)) × (said : List ℕ) × CallFor promise texts answer made said
EndsAs promise texts (TooLong file) = first_too_long 1 texts ≡ Some file
EndsAs promise texts (ReadFault file) = ⊥
EndsAs promise texts (WriteFault file) = ⊥
EndsAs promise texts Memory = ⊥

-- Without a fault the end is the one that the texts call for, or memory ran out.
abbrev pub Completes : {A : Type 0} → Promise A → List (List ℕ) → DeskState → DeskState → Ended A
    → Type 0
Completes promise reads old new ended =
    IfHeld old reads (λ texts. NoFault old new → EndsAs promise texts ended ⊎ (ended ≡ Memory))

-- ---- a text that is too long

-- A file is too long exactly where its reading gave more bytes than the limit. The first of these
-- names has this place.
abbrev pub TooLongExactly : {A : Type 0} → ℕ → List (List ℕ) → DeskState → Ended A → Type 0
TooLongExactly place [] new ended = ⊤
TooLongExactly place (name ∷ names) new ended =
    (IsTooLong new name ↔ (ended ≡ TooLong place)) × TooLongExactly (suc place) names new ended
