-- The map of a text, or its first fault: a header, lines of places by rising atoms, lines of shows,
-- lines of levels by falling priorities, and the end.
use Rattle.std.specs.Prelude.{ℕ, ◌-◌, ◌^◌, nat_lt, ℤ, pos, nat_abs, int_lt, Bool, true, false, cond, ◌||◌, List, [], ◌∷◌, Option, Some, None, Result, Ok, Err, codes}
use Rattle.std.specs.Ordering.{int_eq}
use Rattle.std.specs.Str.{bytes_eq}
use Rattle.asp_base.specs.Faults.{Fault, fault, ◌>>=◌}
use Rattle.asp_base.specs.Literal.{Literal, literal_of}
use Rattle.asp_scan.specs.Lines.{Line, lines_of, end_line}
use Rattle.asp_scan.specs.Tokens.{token_at}
use Rattle.statement_fields.specs.Fields.{Reading, unless, atom, weight, small, counted, ended, name, past_blank, number, word}
use Rattle.ground_program.specs.declared.program.Level.{Level}
use Rattle.ground_program.specs.declared.program.Show.{Show}
use Rattle.ground_program.specs.declared.reading.ReadKind.{ReadKind}
use Rattle.ground_program.specs.declared.reading.ReadKind.TheVariants as read
use Rattle.symbol_map.specs.declared.entry.Entry.{Entry}
use Rattle.symbol_map.specs.declared.entry.Entry.TheVariants.{Atom, Shown, Leveled}
use Rattle.symbol_map.specs.declared.entry.Stage.{Stage}
use Rattle.symbol_map.specs.declared.entry.Stage.TheVariants.{Atoms, Shows, Levels}
use Rattle.symbol_map.specs.declared.map.Form.{Form}
use Rattle.symbol_map.specs.declared.map.Form.TheVariants.{Cnf, Ecnf, Wcnf}
use Rattle.symbol_map.specs.declared.map.Place.{Place}
use Rattle.symbol_map.specs.declared.kind.MapKind.{MapKind}
use Rattle.symbol_map.specs.declared.kind.MapKind.TheVariants as kinds
use Rattle.symbol_map.specs.Symbols.{Symbols}

abbrev pub form_of : List ℕ → Option Form
form_of text =
    cond (bytes_eq text (codes "cnf")) (Some Cnf)
    (cond (bytes_eq text (codes "ecnf")) (Some Ecnf)
    (cond (bytes_eq text (codes "wcnf")) (Some Wcnf) None))

abbrev pub form_next : List ℕ → Option Form → Reading Form
form_next rest None = Err read.BadHeader
form_next rest (Some form) = Ok (form, rest)

abbrev pub form : List ℕ → Reading Form
form line = elim (token_at line) [
  | None ↦ Err read.BadHeader
  | Some token ↦ form_next token.1 (form_of token.0)
]

-- a number of variables
abbrev pub variables : List ℕ → Reading ℕ
variables line = do
  n ← number line
  unless (int_lt n.0 (pos 0) || int_lt (pos (2 ^ 31 - 1)) n.0) read.BadHeader
      (Ok (nat_abs n.0, n.1))

-- map 1 FORM V
abbrev pub header : List ℕ → Result (Form × ℕ) ReadKind
header line = do
  m ← word (codes "map") line
  one ← word (codes "1") m
  f ← form one
  v ← variables f.1
  ended (f.0, v.0) v.1

-- Of a line behind the header it only counts whether it has a fault, and not which.

-- a literal over the variables 1 to vars
abbrev pub over : ℕ → List ℕ → Reading Literal
over vars line = do
  n ← number line
  unless (int_eq n.0 (pos 0) || nat_lt vars (nat_abs n.0)) read.AtomTooLarge
      (Ok (literal_of n.0, n.1))

abbrev pub item_over : ℕ → List ℕ → Reading (Literal × ℤ)
item_over vars line = do
  l ← over vars line
  w ← weight l.1
  Ok ((l.0, w.0), w.1)

-- atom A L, behind its word
abbrev pub place : ℕ → List ℕ → Result Place ReadKind
place vars line = do
  a ← atom line
  l ← over vars a.1
  ended (record { atom = a.0; lit = l.0 }) l.1

-- show M NAME N L1 .. LN, behind its word
abbrev pub show : ℕ → List ℕ → Result Show ReadKind
show vars line = do
  text ← past_blank (name line)
  condition ← counted (over vars) text.1
  ended (record { name = text.0; condition = condition.0 }) condition.1

-- level P N l1 w1 .. ln wn, behind its word
abbrev pub level : ℕ → List ℕ → Result Level ReadKind
level vars line = do
  priority ← small line
  items ← counted (item_over vars) priority.1
  ended (record { priority = priority.0; items = items.0 }) items.1

-- a line of this word, or none at the end
abbrev pub entry_of : ℕ → List ℕ → List ℕ → Result (Option Entry) ReadKind
entry_of vars first rest =
    cond (bytes_eq first (codes "atom")) (place vars rest >>= λ x. Ok (Some (Atom x)))
    (cond (bytes_eq first (codes "show")) (show vars rest >>= λ x. Ok (Some (Shown x)))
    (cond (bytes_eq first (codes "level")) (level vars rest >>= λ x. Ok (Some (Leveled x)))
    (cond (bytes_eq first (codes "end")) (ended None rest) (Err read.UnknownStatement))))

abbrev pub entry : ℕ → List ℕ → Result (Option Entry) ReadKind
entry vars line = elim (token_at line) [
  | None ↦ Err read.Missing
  | Some token ↦ entry_of vars token.0 token.1
]

-- the entry may follow: atoms rise, then come shows, then levels whose priorities fall
abbrev pub is_next : Stage → Entry → Bool
is_next (Atoms a) (Atom place) = nat_lt a place.atom
is_next Shows (Atom place) = false
is_next (Levels p) (Atom place) = false
is_next (Atoms a) (Shown show) = true
is_next Shows (Shown show) = true
is_next (Levels p) (Shown show) = false
is_next (Atoms a) (Leveled level) = true
is_next Shows (Leveled level) = true
is_next (Levels p) (Leveled level) = int_lt level.priority p

abbrev pub stage_of : Entry → Stage
stage_of (Atom place) = Atoms place.atom
stage_of (Shown show) = Shows
stage_of (Leveled level) = Levels level.priority

-- the entry before those of a map
abbrev pub with_entry : Entry → Symbols → Symbols
with_entry (Atom place) m = record m { atoms = place ∷ m.atoms }
with_entry (Shown show) m = record m { shows = show ∷ m.shows }
with_entry (Leveled level) m = record m { levels = level ∷ m.levels }

abbrev pub before : Entry → Result Symbols (Fault MapKind) → Result Symbols (Fault MapKind)
before e (Ok m) = Ok (with_entry e m)
before e (Err f) = Err f

-- behind the end there are blank lines only
abbrev pub ended_text : Symbols → List Line → Result Symbols (Fault MapKind)
ended_text m [] = Ok m
ended_text m (line ∷ lines) = fault line.number kinds.BadLine

-- the lines behind the header; empty is the map with that header and no line
abbrev pub entries : ℕ → Symbols → Stage → List Line → Result Symbols (Fault MapKind)
entries last empty stage [] = fault last kinds.NoEnd
entries last empty stage (line ∷ lines) = elim (entry empty.vars line.bytes) [
  | Err kind ↦ fault line.number kinds.BadLine
  | Ok None ↦ ended_text empty lines
  | Ok (Some e) ↦ cond (is_next stage e)
      (before e (entries last empty (stage_of e) lines))
      (fault line.number kinds.WrongOrder)
]

abbrev pub empty_map : Form → ℕ → Symbols
empty_map form vars = record { form = form; vars = vars; atoms = []; shows = []; levels = [] }

abbrev pub from_lines : ℕ → List Line → Result Symbols (Fault MapKind)
from_lines last [] = fault last kinds.BadHeader
from_lines last (line ∷ lines) = elim (header line.bytes) [
  | Err kind ↦ fault line.number kinds.BadHeader
  | Ok h ↦ entries last (empty_map h.0 h.1) (Atoms 0) lines
]

abbrev pub map_of : List ℕ → Result Symbols (Fault MapKind)
map_of text = from_lines (end_line text) (lines_of text)
