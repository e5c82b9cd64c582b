-- The program of an smodels text, or its first fault. (The ground text of smodels: T. Syrjänen,
-- Lparse 1.0 user's manual, 2000; P. Simons, I. Niemelä, T. Soininen. Extending and implementing
-- the stable model semantics. Artificial Intelligence 138, 2002.)
use Rattle.std.specs.Prelude.{ℕ, ◌+◌, ◌-◌, nat_lt, ℤ, pos, cond, List, [], ◌∷◌, ◌++◌, map, length, Some, None, Result, Ok, Err, codes}
use Rattle.std.specs.Ordering.{int_eq}
use Rattle.asp_base.specs.Literal.{Literal, Pos, Neg}
use Rattle.asp_scan.specs.Lines.{Line, lines_of, end_line}
use Rattle.asp_scan.specs.Tokens.{token_at, skip_blanks}
use Rattle.statement_fields.specs.Fields.{Reading, unless, number, count, atom, body_weight, weight, choice, not_negative, many, ended, word}
use Rattle.statement_fields.specs.Parts.{plain_head, ended_text}
use Rattle.ground_program.specs.Ground.{Ground}
use Rattle.ground_program.specs.Draft.{Draft, empty_draft, with_rule, with_required, with_level, with_show, program_of}
use Rattle.asp_base.specs.Faults.{◌>>=◌, Fault, fault}
use Rattle.ground_program.specs.declared.program.Head.{Head}
use Rattle.ground_program.specs.declared.program.Head.TheVariants.{One, Choice}
use Rattle.ground_program.specs.declared.program.Body.{Body}
use Rattle.ground_program.specs.declared.program.Body.TheVariants.{All, Sum}
use Rattle.ground_program.specs.declared.reading.ReadKind.{ReadKind}
use Rattle.ground_program.specs.declared.reading.ReadKind.TheVariants as kinds

-- ---- bodies: literals are written as atoms, and the first of them are negative

-- how many literals there are, and how many of them are negative: how many negative ones and how
-- many positive ones
abbrev pub counts : List ℕ → Reading (ℕ × ℕ)
counts line = do
  lits ← count line
  negs ← count lits.1
  unless (nat_lt lits.0 negs.0) kinds.BadNumber (Ok ((negs.0, lits.0 - negs.0), negs.1))

abbrev pub literals : ℕ × ℕ → List ℕ → Reading (List Literal)
literals n line = do
  negs ← many atom n.0 line
  poss ← many atom n.1 negs.1
  Ok (map (λ a. Neg a) negs.0 ++ map (λ a. Pos a) poss.0, poss.1)

abbrev pub plain_body : List ℕ → Reading Body
plain_body line = do
  n ← counts line
  lits ← literals n.0 n.1
  Ok (All lits.0, lits.1)

-- at least so many of the literals
abbrev pub count_body : List ℕ → Reading Body
count_body line = do
  n ← counts line
  bound ← weight n.1
  lits ← literals n.0 bound.1
  Ok (Sum bound.0 (map (λ l. (l, pos 1)) lits.0), lits.1)

-- each with the weight that stands at its place
abbrev pub weighted : List Literal → List ℤ → List (Literal × ℤ)
weighted (l ∷ lits) (w ∷ weights) = (l, w) ∷ weighted lits weights
weighted _ _ = []

-- the literals, and then their weights
abbrev pub items : List ℕ → Reading (List (Literal × ℤ))
items line = do
  n ← counts line
  lits ← literals n.0 n.1
  weights ← many body_weight (n.0.0 + n.0.1) lits.1
  Ok (weighted lits.0 weights.0, weights.1)

abbrev pub weight_body : List ℕ → Reading Body
weight_body line = do
  bound ← weight line
  found ← items bound.1
  Ok (Sum bound.0 found.0, found.1)

-- ---- rules, behind their type

abbrev pub ruled : Draft → Head → Reading Body → Result Draft ReadKind
ruled draft h body = do
  b ← body
  ended (with_rule (record { head = h; body = b.0 }) draft) b.1

abbrev pub basic_rule : Draft → List ℕ → Result Draft ReadKind
basic_rule draft line = do
  a ← atom line
  ruled draft (One a.0) (plain_body a.1)

abbrev pub constraint_rule : Draft → List ℕ → Result Draft ReadKind
constraint_rule draft line = do
  a ← atom line
  ruled draft (One a.0) (count_body a.1)

abbrev pub choice_rule : Draft → List ℕ → Result Draft ReadKind
choice_rule draft line = do
  n ← count line
  heads ← many atom n.0 n.1
  ruled draft (Choice heads.0) (plain_body heads.1)

abbrev pub weight_rule : Draft → List ℕ → Result Draft ReadKind
weight_rule draft line = do
  a ← atom line
  ruled draft (One a.0) (weight_body a.1)

-- the k-th of these statements has priority k - 1, so that later ones count more
abbrev pub minimize : Draft → List ℕ → Result Draft ReadKind
minimize draft line = do
  none ← choice 0 line
  found ← items none.1
  ended (with_level (record { priority = pos (length draft.levels); items = found.0 }) draft)
      found.1

abbrev pub disjunctive_rule : Draft → List ℕ → Result Draft ReadKind
disjunctive_rule draft line = do
  n ← count line
  h ← plain_head n.0 n.1
  ruled draft h.0 (plain_body h.1)

-- ---- lines: one adds to the program, or it is the 0 that ends a part

pub data Entry : Type 0 where
  Adds : Draft → Entry
  Ends : Entry

abbrev pub adds : Result Draft ReadKind → Result Entry ReadKind
adds (Ok draft) = Ok (Adds draft)
adds (Err kind) = Err kind

abbrev pub by_type : ℤ → Draft → List ℕ → Result Entry ReadKind
by_type n draft line =
    cond (int_eq n (pos 0)) (ended Ends line)
    (cond (int_eq n (pos 1)) (adds (basic_rule draft line))
    (cond (int_eq n (pos 2)) (adds (constraint_rule draft line))
    (cond (int_eq n (pos 3)) (adds (choice_rule draft line))
    (cond (int_eq n (pos 5)) (adds (weight_rule draft line))
    (cond (int_eq n (pos 6)) (adds (minimize draft line))
    (cond (int_eq n (pos 8)) (adds (disjunctive_rule draft line)) (Err kinds.UnknownStatement)))))))

abbrev pub rule_entry : Draft → List ℕ → Result Entry ReadKind
rule_entry draft line = do
  n ← number line
  by_type n.0 draft n.1

-- the 0 that ends a part, or else an entry that begins with an atom
abbrev pub unless_zero : List ℕ → Result Draft ReadKind → Result Entry ReadKind
unless_zero line entry = do
  n ← number line
  cond (int_eq n.0 (pos 0)) (ended Ends n.1) (adds entry)

-- the rest of the line behind its blanks
abbrev pub symbol_name : List ℕ → Result (List ℕ) ReadKind
symbol_name [] = Err kinds.Missing
symbol_name (byte ∷ bytes) =
    elim (skip_blanks (byte ∷ bytes)) [
      | [] ↦ Err kinds.BadName
      | first ∷ rest ↦ Ok (first ∷ rest)
    ]

-- an atom and its name: the name is shown where the atom is true
abbrev pub symbol : Draft → List ℕ → Result Draft ReadKind
symbol draft line = do
  a ← atom line
  name ← symbol_name a.1
  Ok (with_show (record { name = name; condition = Pos a.0 ∷ [] }) draft)

abbrev pub symbol_entry : Draft → List ℕ → Result Entry ReadKind
symbol_entry draft line = unless_zero line (symbol draft line)

-- an atom alone in its line, which is required to be true, or to be false
abbrev pub required : (ℕ → Literal) → Draft → List ℕ → Result Draft ReadKind
required sign draft line = do
  a ← atom line
  ended (with_required (sign a.0 ∷ []) draft) a.1

abbrev pub required_entry : (ℕ → Literal) → Draft → List ℕ → Result Entry ReadKind
required_entry sign draft line = unless_zero line (required sign draft line)

-- ---- the parts of a text: each is what is read of the lines behind the part before it

-- what is read of the lines that are left, to which what was read is added
abbrev pub Stage : Type 0
Stage = Draft → List Line → Result Draft (Fault ReadKind)

-- how many models were asked for, which is not used
abbrev pub number_of_models : Draft → List ℕ → Result Draft ReadKind
number_of_models draft line = do
  n ← not_negative line
  ended draft n.1

-- the number of models may be left out
abbrev pub models : Stage
models draft [] = Ok draft
models draft (line ∷ lines) =
    elim (number_of_models draft line.bytes) [
      | Err kind ↦ fault line.number kind
      | Ok done ↦ ended_text done lines
    ]

-- entries up to the 0 that ends their part, and then what follows
abbrev pub part : (Draft → List ℕ → Result Entry ReadKind) → Stage → ℕ → Stage
part entry next last draft [] = fault last kinds.NoEnd
part entry next last draft (line ∷ lines) = elim (entry draft line.bytes) [
  | Err kind ↦ fault line.number kind
  | Ok Ends ↦ next draft lines
  | Ok (Adds more) ↦ part entry next last more lines
]

-- this word alone in its line
abbrev pub heading : List ℕ → List ℕ → Result (List ℕ) ReadKind
heading text line = do
  rest ← word text line
  elim (token_at rest) [ None ↦ Ok rest | Some token ↦ Err kinds.BadHeader ]

-- the heading of a part, and then what follows
abbrev pub headed : List ℕ → Stage → ℕ → Stage
headed text next last draft [] = fault last kinds.NoEnd
headed text next last draft (line ∷ lines) =
    elim (heading text line.bytes) [
      | Err kind ↦ fault line.number kind
      | Ok rest ↦ next draft lines
    ]

-- the atoms that are required to be false
abbrev pub negative_part : ℕ → Stage
negative_part last draft lines =
    headed (codes "B-") (part (required_entry (λ a. Neg a)) models last) last draft lines

-- the atoms that are required to be true
abbrev pub positive_part : ℕ → Stage
positive_part last draft lines =
    headed (codes "B+") (part (required_entry (λ a. Pos a)) (negative_part last) last) last draft
    lines

abbrev pub symbol_part : ℕ → Stage
symbol_part last draft lines = part symbol_entry (positive_part last) last draft lines

abbrev pub rule_part : ℕ → Stage
rule_part last draft lines = part rule_entry (symbol_part last) last draft lines

abbrev pub built : Result Draft (Fault ReadKind) → Result Ground (Fault ReadKind)
built (Ok draft) = Ok (program_of draft)
built (Err f) = Err f

abbrev pub smodels_of : List ℕ → Result Ground (Fault ReadKind)
smodels_of text = built (rule_part (end_line text) empty_draft (lines_of text))
