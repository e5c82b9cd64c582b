-- What the commands promise, where the formulas that are made are told.
use Rattle.std.specs.Prelude.{ℕ, List}
use Rattle.job_shell.specs.Ran.{Promise}
use Rattle.asp_tools.specs.AcycInOrder.{AcycInOrder}
use Rattle.asp_tools.specs.BackAnswers.{BackAnswers}
use Rattle.asp_tools.specs.Calls.{makes, says}
use Rattle.asp_tools.specs.CheckAnswers.{CheckAnswers}
use Rattle.asp_tools.specs.NormalAnswers.{NormalAnswers}
use Rattle.asp_tools.specs.SatInOrder.{SatInOrder}
use Rattle.asp_tools.specs.declared.answer.Answer.{Answer}
use Rattle.asp_tools.specs.declared.command.Command.{Command}
use Rattle.asp_tools.specs.declared.command.Command.TheVariants.{Lp2normal, Lp2acyc, Lp2sat, Back, Check}

abbrev pub calls_in_order : Command → List (List ℕ) → Answer → List (List ℕ) → List ℕ → Type 0
calls_in_order (Lp2normal format) texts answer made said =
    NormalAnswers format texts answer made said
calls_in_order (Lp2acyc encoding format) texts answer made said =
    AcycInOrder encoding format texts answer made said
calls_in_order (Lp2sat format) texts answer made said = SatInOrder format texts answer made said
calls_in_order Back texts answer made said = BackAnswers texts answer made said
calls_in_order Check texts answer made said = CheckAnswers texts answer made said

abbrev pub promise_in_order : Command → Promise Answer
promise_in_order command = record {
  answers = calls_in_order command;
  makes = makes command;
  says = says command;
}
