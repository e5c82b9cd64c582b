-- Lines and words as they are written: words with one space between them, an end behind each line.
use Rattle.std.specs.Prelude.{ℕ, ◌==◌, Bool, true, false, not, ◌&&◌, ◌||◌, IsTrue, List, [], ◌∷◌, ◌++◌}
use Rattle.std.specs.List.{list_all}
use Rattle.asp_scan.specs.Lines.{is_blank}

abbrev pub spaced : List (List ℕ) → List ℕ
spaced [] = []
spaced (word ∷ []) = word
spaced (word ∷ next ∷ words) = word ++ (32 ∷ spaced (next ∷ words))

-- a line of words with its end
abbrev pub line_of : List (List ℕ) → List ℕ
line_of words = spaced words ++ (10 ∷ [])

-- the byte does not end a line
abbrev pub stays_in_line : ℕ → Bool
stays_in_line byte = not (byte == 10)

abbrev pub ends_with_return : List ℕ → Bool
ends_with_return [] = false
ends_with_return (byte ∷ []) = byte == 13
ends_with_return (byte ∷ next ∷ bytes) = ends_with_return (next ∷ bytes)

-- no line feed in it, and no carriage return at its end
abbrev pub is_line : List ℕ → Bool
is_line line = list_all stays_in_line line && not (ends_with_return line)

abbrev pub IsLine : List ℕ → Type 0
IsLine line = IsTrue (is_line line)

-- neither a blank nor of an end of a line
abbrev pub is_word_byte : ℕ → Bool
is_word_byte byte = not (is_blank byte || (byte == 10) || (byte == 13))

-- one byte or more, each of them a word's
abbrev pub is_word : List ℕ → Bool
is_word [] = false
is_word (byte ∷ bytes) = list_all is_word_byte (byte ∷ bytes)

abbrev pub IsWord : List ℕ → Type 0
IsWord word = IsTrue (is_word word)

-- what may follow a token: nothing, or a blank and more
abbrev pub ends_token : List ℕ → Bool
ends_token [] = true
ends_token (byte ∷ bytes) = is_blank byte

abbrev pub Ends : List ℕ → Type 0
Ends rest = IsTrue (ends_token rest)
