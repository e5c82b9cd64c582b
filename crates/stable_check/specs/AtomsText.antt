-- A text of atoms: numbers over any number of lines.
use Rattle.std.specs.Prelude.{ℕ, List, [], ◌∷◌, ◌++◌, Result, Ok}
use Rattle.asp_scan.specs.Lines.{Line, lines_of}
use Rattle.asp_scan.specs.Tokens.{tokens}
use Rattle.rising_numbers.specs.Rising.{rising}
use Rattle.asp_base.specs.Faults.{Fault, at_line, ◌>>=◌}
use Rattle.ground_program.specs.declared.reading.ReadKind.{ReadKind}
use Rattle.statement_fields.specs.Fields.{atom}

-- each token is an atom
abbrev pub atoms_of_tokens : List (List ℕ) → Result (List ℕ) ReadKind
atoms_of_tokens [] = Ok []
atoms_of_tokens (token ∷ rest) = do
  a ← atom token
  more ← atoms_of_tokens rest
  Ok (a.0 ∷ more)

-- and the lines of a text stand in their order
abbrev pub atoms_of_lines : List Line → Result (List ℕ) (Fault ReadKind)
atoms_of_lines [] = Ok []
atoms_of_lines (line ∷ lines) = do
  atoms ← at_line line.number (atoms_of_tokens (tokens line.bytes))
  more ← atoms_of_lines lines
  Ok (atoms ++ more)

-- the set of the atoms that the text names, or its first fault
abbrev pub atoms_of : List ℕ → Result (List ℕ) (Fault ReadKind)
atoms_of text = do
  atoms ← atoms_of_lines (lines_of text)
  Ok (rising atoms)
