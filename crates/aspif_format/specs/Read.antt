-- The program of an aspif text, or its first fault. (aspif 1.0.0: the ASP intermediate format of
-- gringo and clasp, Kaminski, Schaub, Wanko, A tutorial on hybrid answer set solving with clingo,
-- 2017, appendix.)
use Rattle.std.specs.Prelude.{ℕ, zero, suc, ◌==◌, pos, int_lt, Bool, false, cond, not, ◌||◌, List, [], ◌∷◌, Some, None, Result, Ok, Err, codes}
use Rattle.std.specs.Str.{bytes_eq}
use Rattle.asp_scan.specs.Lines.{Line, lines_of, end_line}
use Rattle.asp_scan.specs.Tokens.{token_at, integer_of}
use Rattle.statement_fields.specs.Fields.{Reading, unless, number, natural, count, atom, literal, body_weight, weight, small, not_negative, choice, many, counted, item, ended, name, word}
use Rattle.statement_fields.specs.Parts.{plain_head, ended_text}
use Rattle.ground_program.specs.Ground.{Ground}
use Rattle.ground_program.specs.Draft.{Draft, empty_draft, with_rule, with_required, with_edge, with_level, with_show, with_external, program_of}
use Rattle.asp_base.specs.Faults.{◌>>=◌, Fault, fault}
use Rattle.ground_program.specs.declared.program.Head.{Head}
use Rattle.ground_program.specs.declared.program.Head.TheVariants.{Choice}
use Rattle.ground_program.specs.declared.program.Body.{Body}
use Rattle.ground_program.specs.declared.program.Body.TheVariants.{All, Sum}
use Rattle.ground_program.specs.declared.builder.External.{External}
use Rattle.ground_program.specs.declared.builder.External.TheVariants as values
use Rattle.ground_program.specs.declared.reading.ReadKind.{ReadKind}
use Rattle.ground_program.specs.declared.reading.ReadKind.TheVariants as kinds

-- ---- bodies and heads

abbrev pub body_of_kind : ℕ → List ℕ → Reading Body
body_of_kind zero line = do
  lits ← counted literal line
  Ok (All lits.0, lits.1)
body_of_kind (suc n) line = do
  bound ← weight line
  items ← counted (item body_weight) bound.1
  Ok (Sum bound.0 items.0, items.1)

abbrev pub body : List ℕ → Reading Body
body line = do
  kind ← choice 1 line
  body_of_kind kind.0 kind.1

abbrev pub head_of_kind : ℕ → ℕ → List ℕ → Reading Head
head_of_kind zero n line = plain_head n line
head_of_kind (suc k) n line = do
  atoms ← many atom n line
  Ok (Choice atoms.0, atoms.1)

abbrev pub head : List ℕ → Reading Head
head line = do
  kind ← choice 1 line
  n ← count kind.1
  head_of_kind kind.0 n.0 n.1

-- ---- statements, behind their number: what was added so far, with what the statement adds

abbrev pub rule : Draft → List ℕ → Result Draft ReadKind
rule draft line = do
  h ← head line
  b ← body h.1
  ended (with_rule (record { head = h.0; body = b.0 }) draft) b.1

abbrev pub level : Draft → List ℕ → Result Draft ReadKind
level draft line = do
  priority ← small line
  items ← counted (item weight) priority.1
  ended (with_level (record { priority = priority.0; items = items.0 }) draft) items.1

abbrev pub projection : Draft → List ℕ → Result Draft ReadKind
projection draft line = do
  atoms ← counted atom line
  ended draft atoms.1

abbrev pub show : Draft → List ℕ → Result Draft ReadKind
show draft line = do
  text ← name line
  condition ← counted literal text.1
  ended (with_show (record { name = text.0; condition = condition.0 }) draft) condition.1

abbrev pub external_value : ℕ → External
external_value zero = values.Free
external_value (suc zero) = values.True
external_value (suc (suc zero)) = values.False
external_value (suc (suc (suc n))) = values.Release

abbrev pub external : Draft → List ℕ → Result Draft ReadKind
external draft line = do
  a ← atom line
  value ← choice 3 a.1
  ended (with_external a.0 (external_value value.0) draft) value.1

abbrev pub required : Draft → List ℕ → Result Draft ReadKind
required draft line = do
  lits ← counted literal line
  ended (with_required lits.0 draft) lits.1

abbrev pub heuristic : Draft → List ℕ → Result Draft ReadKind
heuristic draft line = do
  type ← choice 5 line
  a ← atom type.1
  k ← number a.1
  priority ← not_negative k.1
  condition ← counted literal priority.1
  ended draft condition.1

abbrev pub edge : Draft → List ℕ → Result Draft ReadKind
edge draft line = do
  from ← small line
  to ← small from.1
  condition ← counted literal to.1
  ended (with_edge (record { from = from.0; to = to.0; condition = condition.0 }) draft) condition.1

-- a statement adds to the program, or it is the end of the text
pub data Statement : Type 0 where
  Adds : Draft → Statement
  Ends : Statement

abbrev pub adds : Result Draft ReadKind → Result Statement ReadKind
adds (Ok draft) = Ok (Adds draft)
adds (Err kind) = Err kind

-- by the statement's number
abbrev pub by_number : ℕ → Draft → List ℕ → Result Statement ReadKind
by_number n draft line =
    cond (n == 0) (ended Ends line)
    (cond (n == 1) (adds (rule draft line))
    (cond (n == 2) (adds (level draft line))
    (cond (n == 3) (adds (projection draft line))
    (cond (n == 4) (adds (show draft line))
    (cond (n == 5) (adds (external draft line))
    (cond (n == 6) (adds (required draft line))
    (cond (n == 7) (adds (heuristic draft line))
    (cond (n == 8) (adds (edge draft line))
    (cond (n == 9) (Err kinds.Theory) (Ok (Adds draft)))))))))))

abbrev pub statement : Draft → List ℕ → Result Statement ReadKind
statement draft line = do
  n ← number line
  unless (int_lt n.0 (pos 0) || int_lt (pos 10) n.0) kinds.UnknownStatement
      (by_number (natural n.0) draft n.1)

-- ---- the text

-- the statements of the lines
abbrev pub statements : ℕ → Draft → List Line → Result Draft (Fault ReadKind)
statements last draft [] = fault last kinds.NoEnd
statements last draft (line ∷ lines) = elim (statement draft line.bytes) [
  | Err kind ↦ fault line.number kind
  | Ok Ends ↦ ended_text draft lines
  | Ok (Adds more) ↦ statements last more lines
]

-- a numeral of at least 0, of any length
abbrev pub is_natural : List ℕ → Bool
is_natural token = elim (integer_of token) [ None ↦ false | Some n ↦ not (int_lt n (pos 0)) ]

-- behind the revision there is nothing, or the word of incremental programs, which are not read
abbrev pub tag : List ℕ → Result Draft ReadKind
tag line = elim (token_at line) [
  | None ↦ Ok empty_draft
  | Some token ↦
      cond (bytes_eq token.0 (codes "incremental")) (Err kinds.Incremental) (Err kinds.BadHeader)
]

abbrev pub revision : List ℕ → Result Draft ReadKind
revision line = elim (token_at line) [
  | None ↦ Err kinds.BadHeader
  | Some token ↦ cond (is_natural token.0) (tag token.1) (Err kinds.BadHeader)
]

-- the words asp, 1 and 0, and the revision; whatever else it has, it is a bad header
abbrev pub header : List ℕ → Result Draft ReadKind
header line = do
  asp ← word (codes "asp") line
  major ← word (codes "1") asp
  minor ← word (codes "0") major
  revision minor

-- the statements behind the header
abbrev pub behind : ℕ → Line → List Line → Result Draft (Fault ReadKind)
behind last line lines = elim (header line.bytes) [
  | Err kind ↦ fault line.number kind
  | Ok draft ↦ statements last draft lines
]

abbrev pub from_lines : ℕ → List Line → Result Draft (Fault ReadKind)
from_lines last [] = fault last kinds.BadHeader
from_lines last (line ∷ lines) = behind last line lines

abbrev pub built : Result Draft (Fault ReadKind) → Result Ground (Fault ReadKind)
built (Ok draft) = Ok (program_of draft)
built (Err f) = Err f

abbrev pub aspif_of : List ℕ → Result Ground (Fault ReadKind)
aspif_of text = built (from_lines (end_line text) (lines_of text))
