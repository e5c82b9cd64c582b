-- The formula of a DIMACS text, or its first fault: comment lines, a header, and clauses as signed
-- numbers that a 0 closes, over any lines. CNF is as in the satisfiability competitions, in WCNF a
-- weight stands before each clause (as in the MaxSAT evaluations), in ECNF lines of edges stand
-- behind the clauses (Gebser, Janhunen and Rintanen, SAT modulo graphs: acyclicity, JELIA 2014).
use Rattle.std.specs.Prelude.{⊤, ℕ, zero, suc, ◌-◌, ◌^◌, nat_lt, nat_le, ℤ, pos, neg_ℤ, nat_abs, int_le, int_lt, Bool, cond, not, ◌&&◌, IsTrue, List, [], ◌∷◌, ◌++◌, map, Some, None, Result, Ok, Err, codes}
use Rattle.std.specs.List.{filter}
use Rattle.std.specs.Ordering.{int_eq}
use Rattle.std.specs.Str.{bytes_eq}
use Rattle.asp_base.specs.Faults.{Fault, fault, at_line, ◌>>=◌}
use Rattle.asp_base.specs.Literal.{Literal, literal_of}
use Rattle.asp_scan.specs.Lines.{Line, lines_of, end_line}
use Rattle.asp_scan.specs.Tokens.{tokens, number_of, begins_with}
use Rattle.clause_store.specs.Clauses.{Clauses}
use Rattle.clause_store.specs.declared.formula.LitEdge.{LitEdge}
use Rattle.clause_store.specs.declared.formula.SoftClause.{SoftClause}
use Rattle.dimacs_format.specs.declared.header.Form.{Form}
use Rattle.dimacs_format.specs.declared.header.Form.TheVariants.{Cnf, Ecnf, Wcnf}
use Rattle.dimacs_format.specs.declared.header.Header.{Header}
use Rattle.dimacs_format.specs.declared.kind.FormulaKind.{FormulaKind}
use Rattle.dimacs_format.specs.declared.kind.FormulaKind.TheVariants as kinds

-- what is read, or the first fault
abbrev pub Reading : Type 0 → Type 0
Reading A = Result A (Fault FormulaKind)

-- a line whose first byte is a c is a comment
abbrev pub is_comment : Line → Bool
is_comment line = begins_with 99 line.bytes

abbrev pub content_of : List Line → List Line
content_of lines = filter (λ line. not (is_comment line)) lines

-- a token with its line
pub record Token : Type 0 where
  pub line : ℕ
  pub text : List ℕ

-- lines as one stream: where a line begins, and its tokens behind that
pub data Item : Type 0 where
  Front : Line → Item
  Word : Token → Item

-- the tokens of one line
abbrev pub words_at : ℕ → List (List ℕ) → List Item
words_at n texts = map (λ text. Word (record { line = n; text = text })) texts

abbrev pub items_of : List Line → List Item
items_of [] = []
items_of (line ∷ lines) = Front line ∷ (words_at line.number (tokens line.bytes) ++ items_of lines)

-- a number of 64 bits
abbrev pub number : Token → Reading ℤ
number token =
    elim (number_of token.text) [ None ↦ fault token.line kinds.BadNumber | Some n ↦ Ok n ]

-- ---- a line of the header or of an edge, from its first token to its last

-- a value and the tokens that follow it, or what is wrong with the line
abbrev pub Field : Type 0 → Type 0
Field A = Result (A × List (List ℕ)) FormulaKind

abbrev pub word : FormulaKind → List (List ℕ) → Field (List ℕ)
word bad [] = Err bad
word bad (text ∷ texts) = Ok (text, texts)

-- this very word
abbrev pub this_word : FormulaKind → List ℕ → List (List ℕ) → Result (List (List ℕ)) FormulaKind
this_word bad due [] = Err bad
this_word bad due (text ∷ texts) = cond (bytes_eq text due) (Ok texts) (Err bad)

-- a number of 64 bits
abbrev pub numeral : FormulaKind → List (List ℕ) → Field ℤ
numeral bad [] = Err bad
numeral bad (text ∷ texts) =
    elim (number_of text) [ None ↦ Err bad | Some n ↦ Ok (n, texts) ]

-- no further token
abbrev pub line_end : FormulaKind → List (List ℕ) → Result ⊤ FormulaKind
line_end bad [] = Ok tt
line_end bad (text ∷ texts) = Err bad

-- ---- the header: p cnf V C, p ecnf V C E or p wcnf V C TOP

-- a number from low to high
abbrev pub count : ℕ → ℕ → List (List ℕ) → Field ℕ
count low high texts = do
  n ← numeral kinds.BadHeader texts
  cond (int_le (pos low) n.0 && int_le n.0 (pos high))
      (Ok (nat_abs n.0, n.1)) (Err kinds.BadHeader)

-- what the header of this form has behind the number of clauses
abbrev pub form_of : List ℕ → List (List ℕ) → Field Form
form_of name texts =
    cond (bytes_eq name (codes "cnf")) (Ok (Cnf, texts))
    (cond (bytes_eq name (codes "ecnf"))
    (count 0 (2 ^ 63 - 1) texts >>= λ n. Ok (Ecnf n.0, n.1))
    (cond (bytes_eq name (codes "wcnf"))
    (count 1 (2 ^ 63 - 1) texts >>= λ n. Ok (Wcnf n.0, n.1))
    (Err kinds.BadHeader)))

abbrev pub header_of : List (List ℕ) → Result Header FormulaKind
header_of texts = do
  p ← this_word kinds.BadHeader (codes "p") texts
  name ← word kinds.BadHeader p
  vars ← count 0 (2 ^ 31 - 1) name.1
  clauses ← count 0 (2 ^ 63 - 1) vars.1
  form ← form_of name.0 clauses.1
  end ← line_end kinds.BadHeader form.1
  Ok (record { vars = vars.0; clauses = clauses.0; form = form.0 })

-- ---- clauses

abbrev pub literal : ℕ → ℕ → ℤ → Reading Literal
literal vars line n =
    cond (nat_lt vars (nat_abs n)) (fault line kinds.LiteralOutOfRange) (Ok (literal_of n))

-- the literals up to the next 0, and what follows it
abbrev pub clause : ℕ → ℕ → List Item → Reading (List Literal × List Item)
clause last vars [] = fault last kinds.NoEnd
clause last vars (Front line ∷ items) = clause last vars items
clause last vars (Word token ∷ items) = do
  n ← number token
  cond (int_eq n (pos 0)) (Ok ([], items)) (do
    l ← literal vars token.line n
    rest ← clause last vars items
    Ok (l ∷ rest.0, rest.1))

-- a further clause, if the text goes on
abbrev pub next_clause : ℕ → ℕ → List Item → Reading (List Literal × List Item)
next_clause last vars [] = fault last kinds.WrongCount
next_clause last vars (Front line ∷ items) = next_clause last vars items
next_clause last vars (Word token ∷ items) = clause last vars (Word token ∷ items)

-- so many clauses, and what follows them
abbrev pub clauses : ℕ → ℕ → ℕ → List Item → Reading (List (List Literal) × List Item)
clauses last vars zero items = Ok ([], items)
clauses last vars (suc n) items = do
  first ← next_clause last vars items
  rest ← clauses last vars n first.1
  Ok (first.0 ∷ rest.0, rest.1)

-- ---- clauses with weights

-- the weight of a further clause, if the text goes on
abbrev pub weight : ℕ → List Item → Reading (ℕ × List Item)
weight last [] = fault last kinds.WrongCount
weight last (Front line ∷ items) = weight last items
weight last (Word token ∷ items) = do
  n ← number token
  cond (int_lt n (pos 1)) (fault token.line kinds.ZeroWeight) (Ok (nat_abs n, items))

abbrev pub weighted : ℕ → ℕ → ℕ → List Item → Reading (List SoftClause × List Item)
weighted last vars zero items = Ok ([], items)
weighted last vars (suc n) items = do
  first ← weight last items
  lits ← clause last vars first.1
  rest ← weighted last vars n lits.1
  Ok (record { weight = first.0; lits = lits.0 } ∷ rest.0, rest.1)

-- a clause of the top weight, or more, is hard
abbrev pub hard_of : ℕ → List SoftClause → List (List Literal)
hard_of top clauses = map (λ c. c.lits) (filter (λ c. nat_le top c.weight) clauses)

abbrev pub soft_of : ℕ → List SoftClause → List SoftClause
soft_of top clauses = filter (λ c. nat_lt c.weight top) clauses

-- ---- lines behind the clauses

-- the lines that begin among these
abbrev pub begun : List Item → List Line
begun [] = []
begun (Front line ∷ items) = line ∷ begun items
begun (Word token ∷ items) = begun items

-- whole lines follow: the line of the last clause has no further token
abbrev pub whole_lines : List Item → Reading (List Line)
whole_lines [] = Ok []
whole_lines (Front line ∷ items) = Ok (line ∷ begun items)
whole_lines (Word token ∷ items) = fault token.line kinds.WrongCount

-- no line follows
abbrev pub ended : List Line → Reading ⊤
ended [] = Ok tt
ended (line ∷ lines) = fault line.number kinds.WrongCount

-- ---- edges: e FROM TO LIT

abbrev pub is_node : ℤ → Bool
is_node n = int_le (neg_ℤ (pos (2 ^ 31))) n && int_lt n (pos (2 ^ 31))

-- both nodes are of 32 bits
abbrev pub HasNodes : LitEdge → Type 0
HasNodes edge = IsTrue (is_node edge.from) × IsTrue (is_node edge.to)

abbrev pub node : List (List ℕ) → Field ℤ
node texts = do
  n ← numeral kinds.BadEdge texts
  cond (is_node n.0) (Ok n) (Err kinds.BadEdge)

abbrev pub edge_literal : ℕ → List (List ℕ) → Field Literal
edge_literal vars texts = do
  n ← numeral kinds.BadEdge texts
  cond (int_eq n.0 (pos 0)) (Err kinds.BadEdge)
      (cond (nat_lt vars (nat_abs n.0)) (Err kinds.LiteralOutOfRange) (Ok (literal_of n.0, n.1)))

abbrev pub edge : ℕ → List (List ℕ) → Result LitEdge FormulaKind
edge vars texts = do
  e ← this_word kinds.BadEdge (codes "e") texts
  from ← node e
  to ← node from.1
  lit ← edge_literal vars to.1
  end ← line_end kinds.BadEdge lit.1
  Ok (record { from = from.0; to = to.0; lit = lit.0 })

-- so many edges, each a line, and the lines that follow
abbrev pub edges : ℕ → ℕ → ℕ → List Line → Reading (List LitEdge × List Line)
edges last vars zero lines = Ok ([], lines)
edges last vars (suc n) [] = fault last kinds.WrongCount
edges last vars (suc n) (line ∷ lines) = do
  first ← at_line line.number (edge vars (tokens line.bytes))
  rest ← edges last vars n lines
  Ok (first ∷ rest.0, rest.1)

-- ---- the text

abbrev pub behind_cnf : ℕ → Header → List Item → Reading Clauses
behind_cnf last header items = do
  hard ← clauses last header.vars header.clauses items
  lines ← whole_lines hard.1
  end ← ended lines
  Ok (record { vars = header.vars; hard = hard.0; edges = []; soft = []; top = 1 })

abbrev pub behind_ecnf : ℕ → Header → ℕ → List Item → Reading Clauses
behind_ecnf last header n items = do
  hard ← clauses last header.vars header.clauses items
  lines ← whole_lines hard.1
  found ← edges last header.vars n lines
  end ← ended found.1
  Ok (record { vars = header.vars; hard = hard.0; edges = found.0; soft = []; top = 1 })

abbrev pub behind_wcnf : ℕ → Header → ℕ → List Item → Reading Clauses
behind_wcnf last header top items = do
  found ← weighted last header.vars header.clauses items
  lines ← whole_lines found.1
  end ← ended lines
  Ok (record {
    vars = header.vars;
    hard = hard_of top found.0;
    edges = [];
    soft = soft_of top found.0;
    top = top;
  })

abbrev pub behind : ℕ → Header → List Item → Reading Clauses
behind last header items = elim header.form [
  | Cnf ↦ behind_cnf last header items
  | Ecnf n ↦ behind_ecnf last header n items
  | Wcnf top ↦ behind_wcnf last header top items
]

abbrev pub from_lines : ℕ → List Line → Reading Clauses
from_lines last [] = fault last kinds.BadHeader
from_lines last (line ∷ lines) = do
  header ← at_line line.number (header_of (tokens line.bytes))
  behind last header (items_of lines)

abbrev pub formula_of : List ℕ → Reading Clauses
formula_of text = from_lines (end_line text) (content_of (lines_of text))
