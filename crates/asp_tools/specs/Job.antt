-- Which words are which job.
use Rattle.std.specs.Prelude.{ℕ, ◌+◌, List, [], ◌∷◌, Bool, true, false, ◌&&◌, not, ◌==◌, None, Some, if◌then◌else◌, length, take, drop}
use Rattle.std.specs.List.{list_all}
use Rattle.std.specs.declared.option.Option.{Option}
use Rattle.std.specs.Str.{bytes_eq}
use Rattle.asp_tools.specs.Calls.{command_of, with_flag, reads_of, writes_of}
use Rattle.asp_tools.specs.declared.command.Command.{Command}

-- a command with the names that it reads and writes
pub record SeenJob : Type 0 where
  pub command : Command
  pub reads : List (List ℕ)
  pub writes : List (List ℕ)

-- a name is not empty and does not begin with a dash
abbrev pub is_name : List ℕ → Bool
is_name [] = false
is_name (first ∷ rest) = not (first == 45)

-- texts that all differ
abbrev pub all_differ : List (List ℕ) → Bool
all_differ [] = true
all_differ (name ∷ names) =
    list_all (λ other. not (bytes_eq name other)) names && all_differ names

abbrev pub are_names : List (List ℕ) → Bool
are_names names = list_all is_name names && all_differ names

-- the job of a command with names: as many as it reads and writes
abbrev pub job_with : Command → List (List ℕ) → Option SeenJob
job_with command names =
    if (length names == reads_of command + writes_of command) && are_names names
    then Some (record {
      command = command;
      reads = take (reads_of command) names;
      writes = drop (reads_of command) names;
    })
    else None

-- the flags of a command, in any order and each once, and behind them its names
abbrev pub job_behind : Command → List (List ℕ) → Option SeenJob
job_behind command [] = job_with command []
job_behind command (word ∷ words) =
    elim (with_flag command word) [
      | None ↦ job_with command (word ∷ words)
      | Some flagged ↦ job_behind flagged words
    ]

abbrev pub job_by : Option Command → List (List ℕ) → Option SeenJob
job_by None words = None
job_by (Some command) words = job_behind command words

-- a command's word, its flags, and its names: lp2normal [--smodels] IN OUT,
-- lp2acyc [--plain] [--ecnf] IN OUT [MAP], lp2sat [--soft] IN OUT MAP, back FORMULA MAP ANSWER,
-- check IN ATOMS
abbrev pub job : List (List ℕ) → Option SeenJob
job [] = None
job (word ∷ words) = job_by (command_of word) words
