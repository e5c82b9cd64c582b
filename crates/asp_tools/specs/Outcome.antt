-- How a run ends, from how its job ended, and the exit status.
use Rattle.std.specs.Prelude.{ℕ}
use Rattle.job_shell.specs.declared.ended.Ended.{Ended}
use Rattle.job_shell.specs.declared.ended.Ended.TheVariants as ends
use Rattle.asp_tools.specs.SeenRefused.{SeenRefused}
use Rattle.asp_tools.specs.declared.answer.Answer.{Answer}
use Rattle.asp_tools.specs.declared.answer.Answer.TheVariants as answers
use Rattle.asp_tools.specs.declared.outcome.Outcome.{Outcome}
use Rattle.asp_tools.specs.declared.outcome.Outcome.TheVariants.{Done, BadWords, Refused, Rejected, NoModelGiven, TooLarge, ReadFault, WriteFault, Memory}
use Rattle.asp_tools.specs.declared.outcome.Kind.TheVariants as kinds

abbrev pub status_of : Outcome → ℕ
status_of Done = 0
status_of BadWords = 1
status_of (Refused file line kind) = 2
status_of (Rejected why) = 3
status_of NoModelGiven = 4
status_of (TooLarge number) = 5
status_of (ReadFault file) = 6
status_of (WriteFault file) = 7
status_of Memory = 8

abbrev pub refused_as : SeenRefused → Outcome
refused_as refused = Refused refused.file refused.line refused.kind

abbrev pub of_answer : Answer → Outcome
of_answer answers.Done = Done
of_answer (answers.Refused refused) = refused_as refused
of_answer (answers.Rejected why) = Rejected why
of_answer answers.NoModelGiven = NoModelGiven
of_answer (answers.TooLarge number) = TooLarge number

abbrev pub outcome_of : Ended Answer → Outcome
outcome_of (ends.Answered answer) = of_answer answer
outcome_of (ends.TooLong file) = Refused file 0 kinds.TextTooLong
outcome_of (ends.ReadFault file) = ReadFault file
outcome_of (ends.WriteFault file) = WriteFault file
outcome_of ends.Memory = Memory
