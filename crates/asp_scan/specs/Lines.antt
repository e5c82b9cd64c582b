-- The lines of a text that are not blank, with their numbers.
use Rattle.std.specs.Prelude.{ℕ, suc, ◌==◌, Bool, cond, ◌||◌, max, List, [], ◌∷◌, length}
use Rattle.std.specs.List.{list_all}

-- a space or a tab
abbrev pub is_blank : ℕ → Bool
is_blank byte = (byte == 32) || (byte == 9)

-- a line of blanks
abbrev pub is_blank_line : List ℕ → Bool
is_blank_line line = list_all is_blank line

-- with a byte before the first line
abbrev pub onto_first : ℕ → List (List ℕ) → List (List ℕ)
onto_first byte [] = (byte ∷ []) ∷ []
onto_first byte (line ∷ lines) = (byte ∷ line) ∷ lines

-- cut at each line feed; a last piece is a line where it is not empty
abbrev pub pieces_of : List ℕ → List (List ℕ)
pieces_of [] = []
pieces_of (byte ∷ bytes) =
    let rest : List (List ℕ) = pieces_of bytes in
    cond (byte == 10) ([] ∷ rest) (onto_first byte rest)

-- without one carriage return at its end
abbrev pub without_return : List ℕ → List ℕ
without_return [] = []
without_return (byte ∷ []) = cond (byte == 13) [] (byte ∷ [])
without_return (byte ∷ next ∷ bytes) = byte ∷ without_return (next ∷ bytes)

-- a line and its number
pub record Line : Type 0 where
  pub number : ℕ
  pub bytes : List ℕ

-- a line in front of others, unless it is blank
abbrev pub unless_blank : Line → List Line → List Line
unless_blank line lines = cond (is_blank_line line.bytes) lines (line ∷ lines)

-- the lines that are not blank, numbered from here
abbrev pub numbered : ℕ → List (List ℕ) → List Line
numbered n [] = []
numbered n (piece ∷ pieces) =
    unless_blank (record { number = n; bytes = without_return piece }) (numbered (suc n) pieces)

abbrev pub lines_of : List ℕ → List Line
lines_of text = numbered 1 (pieces_of text)

-- the line of the end: the number of lines, and at least 1
abbrev pub end_line : List ℕ → ℕ
end_line text = max 1 (length (pieces_of text))
