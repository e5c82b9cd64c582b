-- What reading the texts of names leaves.
use Rattle.std.specs.Prelude.{◌≡◌, ◌≤◌, ◌<◌, ℕ, List, length, IfSome}
use Rattle.std.specs.List.{AllByRecursion}
use Rattle.asp_base.specs.Desk.{DeskState}
use Rattle.asp_base.specs.Take.{TookAll, TakeKeeps}
use Rattle.job_shell.specs.Ran.{RunsOut}
use Rattle.job_shell.specs.Reads.{text_limit, FailsAtRead, IfHeld, IsTooLong, ReadToEnds}
use Rattle.job_shell.specs.declared.ended.Ended.{Ended}
use Rattle.job_shell.specs.declared.ended.Ended.TheVariants.{Answered, TooLong, ReadFault, WriteFault, Memory}

-- this is the text of the name
pub record HasReadOne (old new : DeskState) (name text : List ℕ) : Type 0 where
  pub took : TookAll old new name text_limit text
  pub keeps : TakeKeeps old new

-- the text of the file of this place was not read
abbrev pub NotRead : {A : Type 0} → ℕ → DeskState → DeskState → List ℕ → Ended A → Type 0
NotRead place old new name (Answered answer) = ⊥
NotRead place old new name (TooLong file) =
    (file ≡ place) × IfSome (old.held name) (λ text. text_limit < length text) ×
    IsTooLong new name × RunsOut old new
NotRead place old new name (ReadFault file) =
    (file ≡ place) × FailsAtRead old new name × TakeKeeps old new
NotRead place old new name (WriteFault file) = ⊥
NotRead place old new name Memory = RunsOut old new

-- These are the texts of the names, each within the limit, and they were read to their ends.
pub record HasRead (names : List (List ℕ)) (old new : DeskState) (texts : List (List ℕ)) :
    Type 0 where
  pub told : IfHeld old names (λ contents. contents ≡ texts)
  pub count : length texts ≡ length names
  pub within : AllByRecursion (λ text. length text ≤ text_limit) texts
  pub read : ReadToEnds names old new
  pub short : AllByRecursion (λ name. ¬ IsTooLong new name) names
  pub keeps : TakeKeeps old new
