-- The names of a job.
use Rattle.std.specs.Prelude.{◌≡◌, ℕ, ◌+◌, List, length}
use Rattle.job_shell.specs.Reads.{AllDiffer}
use Rattle.asp_tools.specs.Calls.{reads_of, writes_of}
use Rattle.asp_tools.specs.declared.command.Command.{Command}

-- as many names as the command reads and writes, which all differ
abbrev pub AreJobNames : Command → List (List ℕ) → Type 0
AreJobNames command names =
    (length names ≡ reads_of command + writes_of command) × AllDiffer names
