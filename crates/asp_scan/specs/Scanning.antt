-- A text as it is walked, line by line.
use Rattle.std.specs.Prelude.{ℕ, List, [], ◌∷◌}
use Rattle.asp_scan.specs.Lines.{Line, lines_of, end_line}

-- the present line, what is left of it, the lines that are still to come, and the line of the end
pub record Scanning : Type 0 where
  pub line : Line
  pub left : List ℕ
  pub ahead : List Line
  pub last : ℕ

-- a line without bytes
abbrev pub bare : ℕ → Line
bare n = record { number = n; bytes = [] }

-- before the first line
abbrev pub start : List ℕ → Scanning
start text = record { line = bare 0; left = []; ahead = lines_of text; last = end_line text }

-- at the first of the lines to come, or at the line of the end
abbrev pub at_lines : List Line → ℕ → Scanning
at_lines [] last = record { line = bare last; left = []; ahead = []; last = last }
at_lines (line ∷ lines) last = record { line = line; left = line.bytes; ahead = lines; last = last }

-- at the next line
abbrev pub next : Scanning → Scanning
next s = at_lines s.ahead s.last
