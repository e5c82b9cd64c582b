-- How a job ends once a reply is known.
use Rattle.std.specs.Prelude.{◌≡◌, ◌⊎◌, ℕ, List, length, take}
use Rattle.asp_base.specs.Desk.{DeskState, Says, FailsToSay}
use Rattle.job_shell.specs.Reads.{AtPlace}
use Rattle.job_shell.specs.private.Written.{WroteEach, FailsToWriteAt}
use Rattle.job_shell.specs.declared.ended.Ended.{Ended}
use Rattle.job_shell.specs.declared.ended.Ended.TheVariants.{Answered, TooLong, ReadFault, WriteFault, Memory}

-- the texts are written under the first of these names, and then this is so
abbrev pub Written : List (List ℕ) → List (List ℕ) → DeskState → (DeskState → Type 0) → Type 0
Written writes made old Then =
    (mid : DeskState) × WroteEach old mid (take (length made) writes) made × Then mid

-- what is made and said with an answer is written and said, up to the first call that fails; the
-- first of the names has this place
abbrev pub Delivers : {A : Type 0} → List (List ℕ) → ℕ → A → List (List ℕ) → List ℕ → DeskState
    → DeskState → Ended A → Type 0
Delivers writes first answer made said old new (Answered given) =
    (given ≡ answer) × Written writes made old (λ mid. Says mid new said)
Delivers writes first answer made said old new (TooLong file) = ⊥
Delivers writes first answer made said old new (ReadFault file) = ⊥
Delivers writes first answer made said old new (WriteFault file) =
    ((file ≡ 0) × Written writes made old (λ mid. FailsToSay mid new said))
    ⊎ AtPlace first writes file (FailsToWriteAt old new made)
Delivers writes first answer made said old new Memory = ⊥
