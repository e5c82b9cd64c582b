-- From the end of a job to the outcome of a run.
use Rattle.std.proofs.Common.{◌≡◌, sym, ◌∙◌, ap, ℕ, suc, List, [], ◌∷◌}
use Rattle.std.proofs.lemmas.Bool.{true≢false}
use Rattle.asp_base.specs.Desk.{DeskState}
use Rattle.job_shell.specs.Ran as shell
use Rattle.job_shell.specs.declared.ended.Ended.{Ended}
use Rattle.job_shell.specs.declared.ended.Ended.TheVariants as ends
use Rattle.asp_tools.specs.Outcome.{outcome_of}
use Rattle.asp_tools.specs.Ran.{TooLongExactly}
use Rattle.asp_tools.specs.private.TooLong.{is_long, is_too_long}
use Rattle.asp_tools.specs.declared.answer.Answer.{Answer}
use Rattle.asp_tools.specs.declared.outcome.Outcome.{Outcome}
use Rattle.asp_tools.specs.declared.outcome.Outcome.TheVariants.{Refused}
use Rattle.asp_tools.specs.declared.outcome.Kind.TheVariants.{TextTooLong}

abbrev file_of : Outcome → ℕ
file_of (Refused file line kind) = file
file_of outcome = 0

-- an outcome that a text is too long comes from that end alone
end-of : (ended : Ended Answer) (file : ℕ) → is_too_long ended ≡ is_long (outcome_of ended) → outcome_of ended ≡ Refused file 0 TextTooLong → ended ≡ ends.TooLong file
end-of (ends.TooLong file) other h e = ap (λ n. ends.TooLong n) (ap file_of e)
end-of (ends.Answered answer) other h e = absurd (true≢false (sym (h ∙ ap is_long e)))
end-of (ends.ReadFault file) other h e = absurd (true≢false (sym (ap is_long e)))
end-of (ends.WriteFault file) other h e = absurd (true≢false (sym (ap is_long e)))
end-of ends.Memory other h e = absurd (true≢false (sym (ap is_long e)))

pub exactly-outcome : (ended : Ended Answer) → is_too_long ended ≡ is_long (outcome_of ended) → (new : DeskState) (place : ℕ) (names : List (List ℕ)) → shell.TooLongExactly place names new ended → TooLongExactly place names new (outcome_of ended)
exactly-outcome ended h new place [] k = tt
exactly-outcome ended h new place (name ∷ names) k = (
  ((λ long. ap outcome_of (k.0.0 long)), λ e. k.0.1 (end-of ended place h e)),
  exactly-outcome ended h new (suc place) names k.1,
)
