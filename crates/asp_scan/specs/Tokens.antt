-- Tokens and numerals of a line.
use Rattle.std.specs.Prelude.{ℕ, zero, suc, ◌+◌, ◌*◌, ◌-◌, ◌^◌, ◌==◌, nat_le, ℤ, pos, neg_ℤ, int_le, int_lt, Bool, false, cond, ◌&&◌, List, [], ◌∷◌, length, take, drop, Option, Some, None, Result, Ok, Err}
use Rattle.asp_scan.specs.Lines.{is_blank}
use Rattle.asp_scan.specs.declared.scan.ScanFault.{ScanFault}
use Rattle.asp_scan.specs.declared.scan.ScanFault.TheVariants.{Missing, BadNumber, TooWide}

abbrev pub skip_blanks : List ℕ → List ℕ
skip_blanks [] = []
skip_blanks (byte ∷ bytes) = cond (is_blank byte) (skip_blanks bytes) (byte ∷ bytes)

-- up to the next blank
abbrev pub token_front : List ℕ → List ℕ
token_front [] = []
token_front (byte ∷ bytes) = cond (is_blank byte) [] (byte ∷ token_front bytes)

-- from the next blank on
abbrev pub after_token : List ℕ → List ℕ
after_token [] = []
after_token (byte ∷ bytes) = cond (is_blank byte) (byte ∷ bytes) (after_token bytes)

-- the next token, and what follows it
abbrev pub token_at : List ℕ → Option (List ℕ × List ℕ)
token_at line = elim (skip_blanks line) [
  | [] ↦ None
  | byte ∷ bytes ↦ Some (token_front (byte ∷ bytes), after_token (byte ∷ bytes))
]

abbrev pub is_digit : ℕ → Bool
is_digit byte = nat_le 48 byte && nat_le byte 57

-- the number whose first digits gave so much
abbrev pub digits_onto : ℕ → List ℕ → Option ℕ
digits_onto n [] = Some n
digits_onto n (byte ∷ bytes) = cond (is_digit byte) (digits_onto (10 * n + (byte - 48)) bytes) None

abbrev pub natural_of : List ℕ → Option ℕ
natural_of [] = None
natural_of (byte ∷ bytes) = digits_onto 0 (byte ∷ bytes)

abbrev pub some_pos : Option ℕ → Option ℤ
some_pos None = None
some_pos (Some n) = Some (pos n)

abbrev pub some_neg : Option ℕ → Option ℤ
some_neg None = None
some_neg (Some n) = Some (neg_ℤ (pos n))

-- a minus where it is negative, and digits
abbrev pub integer_of : List ℕ → Option ℤ
integer_of [] = None
integer_of (byte ∷ bytes) =
    cond (byte == 45) (some_neg (natural_of bytes)) (some_pos (natural_of (byte ∷ bytes)))

abbrev pub fits_i64 : ℤ → Bool
fits_i64 n = int_le (neg_ℤ (pos (2 ^ 63))) n && int_lt n (pos (2 ^ 63))

abbrev pub checked : Option ℤ → Result ℤ ScanFault
checked None = Err BadNumber
checked (Some n) = cond (fits_i64 n) (Ok n) (Err TooWide)

abbrev pub with_rest : Result ℤ ScanFault → List ℕ → Result (ℤ × List ℕ) ScanFault
with_rest (Ok n) rest = Ok (n, rest)
with_rest (Err fault) rest = Err fault

-- the number that a token is, where it fits
abbrev pub number_of : List ℕ → Option ℤ
number_of text = elim (integer_of text) [ None ↦ None | Some n ↦ cond (fits_i64 n) (Some n) None ]

-- the number that stands next, and what follows it
abbrev pub number_at : List ℕ → Result (ℤ × List ℕ) ScanFault
number_at line = elim (token_at line) [
  | None ↦ Err Missing
  | Some token ↦ with_rest (checked (integer_of token.0)) token.1
]

-- the n bytes behind one blank, and what follows them
abbrev pub bytes_from : ℕ → List ℕ → Option (List ℕ × List ℕ)
bytes_from n [] = None
bytes_from n (byte ∷ bytes) =
    cond (is_blank byte && nat_le n (length bytes)) (Some (take n bytes, drop n bytes)) None

-- the next tokens, at most so many
abbrev pub tokens_within : ℕ → List ℕ → List (List ℕ)
tokens_within zero line = []
tokens_within (suc most) line = elim (token_at line) [
  | None ↦ []
  | Some token ↦ token.0 ∷ tokens_within most token.1
]

-- the tokens of a line: each is a byte at least, so there are no more of them than bytes
abbrev pub tokens : List ℕ → List (List ℕ)
tokens line = tokens_within (length line) line

-- whether a line's first byte is this one
abbrev pub begins_with : ℕ → List ℕ → Bool
begins_with byte [] = false
begins_with byte (first ∷ rest) = first == byte
