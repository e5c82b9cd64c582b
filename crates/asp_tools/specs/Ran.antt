-- How a run of a job ends, and what it leaves of its desk.
use Rattle.std.specs.Prelude.{◌≡◌, ◌↔◌, ⊤, ℕ, suc, List, [], ◌∷◌}
use Rattle.asp_base.specs.Desk.{DeskState}
use Rattle.job_shell.specs.Ran as shell
use Rattle.job_shell.specs.Reads.{IsTooLong}
use Rattle.job_shell.specs.declared.ended.Ended.{Ended}
use Rattle.asp_tools.specs.Calls.{promise_of}
use Rattle.asp_tools.specs.CallsInOrder.{promise_in_order}
use Rattle.asp_tools.specs.Job.{SeenJob}
use Rattle.asp_tools.specs.Outcome.{outcome_of}
use Rattle.asp_tools.specs.declared.answer.Answer.{Answer}
use Rattle.asp_tools.specs.declared.outcome.Outcome.{Outcome}
use Rattle.asp_tools.specs.declared.outcome.Outcome.TheVariants.{Refused}
use Rattle.asp_tools.specs.declared.outcome.Kind.TheVariants.{TextTooLong}

-- the outcome is that of an end of the job, and this is so of the end
abbrev pub EndsSo : Outcome → (Ended Answer → Type 0) → Type 0
EndsSo outcome Fact = (ended : Ended Answer) × (outcome ≡ outcome_of ended) × Fact ended

-- each end with its cause, and what it leaves
abbrev pub Ran : SeenJob → DeskState → DeskState → Outcome → Type 0
Ran j old new outcome =
    EndsSo outcome (shell.Ran (promise_of j.command) j.reads j.writes old new)

-- the same, where the formulas that are made are told
abbrev pub InOrder : SeenJob → DeskState → DeskState → Outcome → Type 0
InOrder j old new outcome =
    EndsSo outcome (shell.Ran (promise_in_order j.command) j.reads j.writes old new)

-- Without a fault the outcome is the one that the texts call for, or memory ran out.
abbrev pub Completes : SeenJob → DeskState → DeskState → Outcome → Type 0
Completes j old new outcome =
    EndsSo outcome (shell.Completes (promise_of j.command) j.reads old new)

-- a file is refused as too long exactly where its reading gave more bytes than the limit; the first
-- of these names has this place
abbrev pub TooLongExactly : ℕ → List (List ℕ) → DeskState → Outcome → Type 0
TooLongExactly place [] new outcome = ⊤
TooLongExactly place (name ∷ names) new outcome =
    (IsTooLong new name ↔ (outcome ≡ Refused place 0 TextTooLong)) ×
    TooLongExactly (suc place) names new outcome
