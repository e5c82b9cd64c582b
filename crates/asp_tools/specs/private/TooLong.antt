-- The ends and the outcomes of a text that is too long.
use Rattle.std.specs.Prelude.{Bool, true, false}
use Rattle.job_shell.specs.declared.ended.Ended.{Ended}
use Rattle.job_shell.specs.declared.ended.Ended.TheVariants.{TooLong}
use Rattle.asp_tools.specs.declared.answer.Answer.{Answer}
use Rattle.asp_tools.specs.declared.outcome.Outcome.{Outcome}
use Rattle.asp_tools.specs.declared.outcome.Outcome.TheVariants.{Refused}
use Rattle.asp_tools.specs.private.Long.{is_long_kind}

abbrev pub is_long : Outcome → Bool
is_long (Refused file line kind) = is_long_kind kind
is_long outcome = false

abbrev pub is_too_long : Ended Answer → Bool
is_too_long (TooLong file) = true
is_too_long ended = false
