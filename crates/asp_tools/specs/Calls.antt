-- The commands: how many texts they read and write, and which answers texts call for.
use Rattle.std.specs.Prelude.{ℕ, Bool, true, false, List, Some, None, codes, if◌then◌else◌}
use Rattle.std.specs.declared.option.Option.{Option}
use Rattle.std.specs.Str.{bytes_eq}
use Rattle.job_shell.specs.Ran.{Promise}
use Rattle.acyc_translation.specs.declared.encoding.Encoding.{Encoding}
use Rattle.acyc_translation.specs.declared.encoding.Encoding.TheVariants.{Plain, Unique}
use Rattle.asp_tools.specs.AcycAnswers.{AcycAnswers}
use Rattle.asp_tools.specs.BackAnswers.{BackAnswers}
use Rattle.asp_tools.specs.CheckAnswers.{CheckAnswers}
use Rattle.asp_tools.specs.NormalAnswers.{NormalAnswers}
use Rattle.asp_tools.specs.SatAnswers.{SatAnswers}
use Rattle.asp_tools.specs.declared.answer.Answer.{Answer}
use Rattle.asp_tools.specs.declared.answer.Answer.TheVariants.{Done, Rejected, NoModelGiven}
use Rattle.asp_tools.specs.declared.command.AcycFormat.{AcycFormat}
use Rattle.asp_tools.specs.declared.command.AcycFormat.TheVariants as acyc
use Rattle.asp_tools.specs.declared.command.Command.{Command}
use Rattle.asp_tools.specs.declared.command.Command.TheVariants.{Lp2normal, Lp2acyc, Lp2sat, Back, Check}
use Rattle.asp_tools.specs.declared.command.FormulaFormat.TheVariants.{Cnf, Wcnf}
use Rattle.asp_tools.specs.declared.command.TextFormat.TheVariants.{Aspif, Smodels}

abbrev pub command_of : List ℕ → Option Command
command_of word =
    if bytes_eq word (codes "lp2normal") then Some (Lp2normal Aspif)
    else (if bytes_eq word (codes "lp2acyc") then Some (Lp2acyc Unique acyc.Aspif)
    else (if bytes_eq word (codes "lp2sat") then Some (Lp2sat Cnf)
    else (if bytes_eq word (codes "back") then Some Back
    else (if bytes_eq word (codes "check") then Some Check else None))))

-- each flag once
abbrev pub as_plain : Encoding → AcycFormat → Option Command
as_plain Unique format = Some (Lp2acyc Plain format)
as_plain Plain format = None

abbrev pub as_ecnf : Encoding → AcycFormat → Option Command
as_ecnf encoding acyc.Aspif = Some (Lp2acyc encoding acyc.Ecnf)
as_ecnf encoding acyc.Ecnf = None

-- the command with a flag that it takes, each once
abbrev pub with_flag : Command → List ℕ → Option Command
with_flag (Lp2normal Aspif) word =
    if bytes_eq word (codes "--smodels") then Some (Lp2normal Smodels) else None
with_flag (Lp2acyc encoding format) word =
    if bytes_eq word (codes "--plain") then as_plain encoding format
    else (if bytes_eq word (codes "--ecnf") then as_ecnf encoding format else None)
with_flag (Lp2sat Cnf) word =
    if bytes_eq word (codes "--soft") then Some (Lp2sat Wcnf) else None
with_flag command word = None

-- the number of texts that a command reads
abbrev pub reads_of : Command → ℕ
reads_of (Lp2normal format) = 1
reads_of (Lp2acyc encoding format) = 1
reads_of (Lp2sat format) = 1
reads_of Back = 3
reads_of Check = 2

-- the number of texts that it writes
abbrev pub writes_of : Command → ℕ
writes_of (Lp2normal format) = 1
writes_of (Lp2acyc encoding acyc.Aspif) = 1
writes_of (Lp2acyc encoding acyc.Ecnf) = 2
writes_of (Lp2sat format) = 2
writes_of Back = 0
writes_of Check = 0

-- whether texts are made with an answer
abbrev pub makes : Command → Answer → Bool
makes (Lp2normal format) Done = true
makes (Lp2acyc encoding format) Done = true
makes (Lp2sat format) Done = true
makes command answer = false

-- whether something is said with an answer
abbrev pub says_of : Answer → Bool
says_of Done = true
says_of (Rejected why) = true
says_of NoModelGiven = true
says_of answer = false

abbrev pub says : Command → Answer → Bool
says (Lp2normal format) answer = false
says (Lp2acyc encoding format) answer = false
says (Lp2sat format) answer = false
says Back answer = says_of answer
says Check answer = says_of answer

-- the answer that texts call for, with the texts that are made and what is said
abbrev pub calls_for : Command → List (List ℕ) → Answer → List (List ℕ) → List ℕ → Type 0
calls_for (Lp2normal format) texts answer made said =
    NormalAnswers format texts answer made said
calls_for (Lp2acyc encoding format) texts answer made said =
    AcycAnswers encoding format texts answer made said
calls_for (Lp2sat format) texts answer made said = SatAnswers format texts answer made said
calls_for Back texts answer made said = BackAnswers texts answer made said
calls_for Check texts answer made said = CheckAnswers texts answer made said

abbrev pub promise_of : Command → Promise Answer
promise_of command = record {
  answers = calls_for command;
  makes = makes command;
  says = says command;
}
