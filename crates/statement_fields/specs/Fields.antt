-- The fields of a statement: each is read from what is left of its line, and fully checked before
-- the next one. (aspif 1.0: Kaminski, Schaub, Wanko, A tutorial on hybrid answer set solving with
-- clingo, 2017, appendix; the limits are this project's.)
use Rattle.std.specs.Prelude.{◌≡◌, ⊤, ℕ, zero, suc, ◌^◌, ◌-◌, nat_lt, ℤ, pos, negsuc, neg_ℤ, nat_abs, int_lt, int_le, Bool, cond, not, ◌&&◌, ◌||◌, List, [], ◌∷◌, drop, Some, None, Result, Ok, Err}
use Rattle.std.specs.Ordering.{int_eq}
use Rattle.std.specs.Str.{bytes_eq}
use Rattle.asp_scan.specs.Tokens.{token_at, number_at, bytes_from}
use Rattle.asp_scan.specs.Words.{ends_token}
use Rattle.asp_scan.specs.declared.scan.ScanFault.{ScanFault}
use Rattle.asp_scan.specs.declared.scan.ScanFault.TheVariants as scan
use Rattle.asp_base.specs.Faults.{◌>>=◌}
use Rattle.asp_base.specs.Literal.{Literal, literal_of}
use Rattle.asp_base.specs.declared.faults.LineFault.{LineFault}
use Rattle.asp_base.specs.declared.faults.LineFault.TheVariants as faults
use Rattle.ground_program.specs.declared.reading.ReadKind.{ReadKind}
use Rattle.ground_program.specs.declared.reading.ReadKind.TheVariants as kinds

-- a value and what follows it in the line, or the first fault
abbrev pub Reading : Type 0 → Type 0
Reading A = Result (A × List ℕ) ReadKind

-- the rest, unless a test finds this fault
abbrev pub unless : {A : Type 0} → Bool → ReadKind → Result A ReadKind → Result A ReadKind
unless fails kind rest = cond fails (Err kind) rest

abbrev pub kind_of : ScanFault → ReadKind
kind_of scan.Missing = kinds.Missing
kind_of scan.BadNumber = kinds.BadNumber
kind_of scan.TooWide = kinds.TooWide

abbrev pub lifted : Result (ℤ × List ℕ) ScanFault → Reading ℤ
lifted (Ok x) = Ok x
lifted (Err fault) = Err (kind_of fault)

abbrev pub number : List ℕ → Reading ℤ
number line = lifted (number_at line)

abbrev pub above : ℕ → ℤ → Bool
above most n = nat_lt most (nat_abs n)

abbrev pub natural : ℤ → ℕ
natural (pos n) = n
natural (negsuc n) = 0

-- how many entries follow
abbrev pub count : List ℕ → Reading ℕ
count line = do
  n ← number line
  unless (int_lt n.0 (pos 0)) kinds.NegativeCount
      (unless (int_lt (pos (2 ^ 24)) n.0) kinds.TooManyLiterals (Ok (natural n.0, n.1)))

-- how many bytes a name has
abbrev pub name_length : List ℕ → Reading ℕ
name_length line = do
  n ← number line
  unless (int_lt n.0 (pos 0)) kinds.NegativeCount (Ok (natural n.0, n.1))

-- the atom that a number is, in front of this line
abbrev pub atom_from : ℤ → List ℕ → Reading ℕ
atom_from n line =
    unless (int_eq n (pos 0)) kinds.ZeroAtom
    (unless (int_lt n (pos 0)) kinds.BadNumber
    (unless (above (2 ^ 30) n) kinds.AtomTooLarge (Ok (natural n, line))))

abbrev pub atom : List ℕ → Reading ℕ
atom line = do
  n ← number line
  atom_from n.0 n.1

abbrev pub literal : List ℕ → Reading Literal
literal line = do
  n ← number line
  unless (int_eq n.0 (pos 0)) kinds.ZeroAtom
      (unless (above (2 ^ 30) n.0) kinds.AtomTooLarge (Ok (literal_of n.0, n.1)))

-- a weight of a body
abbrev pub body_weight : List ℕ → Reading ℤ
body_weight line = do
  n ← number line
  unless (int_lt n.0 (pos 0)) kinds.NegativeWeight
      (unless (above (2 ^ 31 - 1) n.0) kinds.WeightTooLarge (Ok n))

-- a level's weight, or a bound
abbrev pub weight : List ℕ → Reading ℤ
weight line = do
  n ← number line
  unless (above (2 ^ 31 - 1) n.0) kinds.WeightTooLarge (Ok n)

abbrev pub fits_i32 : ℤ → Bool
fits_i32 n = int_le (neg_ℤ (pos (2 ^ 31))) n && int_lt n (pos (2 ^ 31))

-- a priority, or a node
abbrev pub small : List ℕ → Reading ℤ
small line = do
  n ← number line
  unless (not (fits_i32 n.0)) kinds.BadNumber (Ok n)

-- a priority of a heuristic statement
abbrev pub not_negative : List ℕ → Reading ℤ
not_negative line = do
  n ← number line
  unless (int_lt n.0 (pos 0)) kinds.BadNumber (Ok n)

-- one of the numbers from 0 to most
abbrev pub choice : ℕ → List ℕ → Reading ℕ
choice most line = do
  n ← number line
  unless (int_lt n.0 (pos 0) || int_lt (pos most) n.0) kinds.BadNumber (Ok (natural n.0, n.1))

-- so many of one kind
abbrev pub many : {A : Type 0} → (List ℕ → Reading A) → ℕ → List ℕ → Reading (List A)
many field zero line = Ok ([], line)
many field (suc n) line = do
  first ← field line
  rest ← many field n first.1
  Ok (first.0 ∷ rest.0, rest.1)

abbrev pub counted : {A : Type 0} → (List ℕ → Reading A) → List ℕ → Reading (List A)
counted field line = do
  n ← count line
  many field n.0 n.1

-- a literal and its weight
abbrev pub item : (List ℕ → Reading ℤ) → List ℕ → Reading (Literal × ℤ)
item weight_field line = do
  l ← literal line
  w ← weight_field l.1
  Ok ((l.0, w.0), w.1)

-- nothing is left but blanks
abbrev pub ended : {A : Type 0} → A → List ℕ → Result A ReadKind
ended value line = elim (token_at line) [ None ↦ Ok value | Some token ↦ Err kinds.TrailingText ]

-- a name: its length, one blank, so many bytes, and then a blank or the end
abbrev pub name : List ℕ → Reading (List ℕ)
name line = do
  n ← name_length line
  elim (bytes_from n.0 n.1) [
    | None ↦ Err kinds.Missing
    | Some found ↦ unless (not (ends_token found.1)) kinds.BadName (Ok found)
  ]

-- with the blank behind it taken, if there is one
abbrev pub past_blank : {A : Type 0} → Reading A → Reading A
past_blank (Ok read) = Ok (read.0, drop 1 read.1)
past_blank (Err kind) = Err kind

-- this word of a header
abbrev pub word : List ℕ → List ℕ → Result (List ℕ) ReadKind
word text line = elim (token_at line) [
  | None ↦ Err kinds.BadHeader
  | Some token ↦ cond (bytes_eq token.0 text) (Ok token.1) (Err kinds.BadHeader)
]

-- a fault of several fields is the first one, or memory ran out
abbrev pub Faults : {A : Type 0} → Result A ReadKind → LineFault ReadKind → Type 0
Faults read (faults.Kind kind) = read ≡ Err kind
Faults read faults.Memory = ⊤
