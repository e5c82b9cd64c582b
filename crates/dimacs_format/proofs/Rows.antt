-- The reader's definition and the writers' on small texts, by computation.
use Rattle.std.proofs.Common.{◌≡◌, refl, ℕ, ℤ, pos, negsuc, List, [], ◌∷◌, codes, Ok}
use Rattle.std.specs.Fmt.{digits}
use Rattle.asp_base.specs.Faults.{fault}
use Rattle.asp_base.specs.Literal.{Literal, Pos, Neg}
use Rattle.clause_store.specs.Clauses.{Clauses}
use Rattle.clause_store.specs.declared.formula.LitEdge.{LitEdge}
use Rattle.clause_store.specs.declared.formula.SoftClause.{SoftClause}
use Rattle.dimacs_format.specs.Read.{formula_of}
use Rattle.dimacs_format.specs.Written.{cnf_text, ecnf_text, wcnf_text}
use Rattle.dimacs_format.specs.declared.kind.FormulaKind.TheVariants.{BadHeader, BadNumber, LiteralOutOfRange, ZeroWeight, BadEdge, WrongCount, NoEnd}

-- ---- what is read

abbrev hard_only : ℕ → List (List Literal) → Clauses
hard_only vars hard = record { vars = vars; hard = hard; edges = []; soft = []; top = 1 }

-- hard clauses over the variables 1 and 2
abbrev over_two : List (List Literal) → Clauses
over_two = hard_only 2

-- no truth value of two variables makes them all true
abbrev all_four : List (List Literal)
all_four = (Neg 1 ∷ Neg 2 ∷ []) ∷ (Pos 1 ∷ Pos 2 ∷ []) ∷ (Neg 2 ∷ Neg 1 ∷ []) ∷ (Pos 2 ∷ Pos 1 ∷ []) ∷ []

clauses_by_lines : formula_of (codes "p cnf 2 4\n-1 -2 0\n1 2 0\n-2 -1 0\n2 1 0\n") ≡ Ok (over_two all_four)
clauses_by_lines = refl

-- comments stand before the header and between clauses, and blank lines too
comments : formula_of (codes "c 1 0\n\np cnf 2 4\n-1 -2 0\n1 2 0\ncp cnf\n \n-2 -1 0\r\n2 1 0") ≡ Ok (over_two all_four)
comments = refl

-- a clause goes over the end of a line, and a line has more than one clause
clause_over_lines : formula_of (codes "p cnf 2 4\n-1\n\t-2 0 1 2 0 -2\nc 0\n-1 0 2 1 0\n") ≡ Ok (over_two all_four)
clause_over_lines = refl

empty_clause : formula_of (codes "p cnf 2 2\n0\n2 0\n") ≡ Ok (over_two ([] ∷ (Pos 2 ∷ []) ∷ []))
empty_clause = refl

no_clauses : formula_of (codes "p cnf 2 0\n") ≡ Ok (over_two [])
no_clauses = refl

-- the text ends at line 2, before the second clause
too_few : formula_of (codes "p cnf 1 2\n1 0\n") ≡ fault 2 WrongCount
too_few = refl

-- the first token behind the last clause
too_many : formula_of (codes "p cnf 1 1\n1 0\nc\n1 0\n") ≡ fault 4 WrongCount
too_many = refl

no_number_behind : formula_of (codes "p cnf 1 1\n1 0 x\n") ≡ fault 2 WrongCount
no_number_behind = refl

no_end : formula_of (codes "p cnf 1 1\n1\n") ≡ fault 2 NoEnd
no_end = refl

out_of_range : formula_of (codes "p cnf 1 1\n2 0\n") ≡ fault 2 LiteralOutOfRange
out_of_range = refl

negative_out_of_range : formula_of (codes "p cnf 1 1\n\n-2 0\n") ≡ fault 3 LiteralOutOfRange
negative_out_of_range = refl

bad_number : formula_of (codes "p cnf 1 1\nx 0\n") ≡ fault 2 BadNumber
bad_number = refl

-- a number above 64 bits
wide_number : formula_of (codes "p cnf 1 1\n9223372036854775808 0\n") ≡ fault 2 BadNumber
wide_number = refl

-- a header of CNF is of four tokens, and counts are not negative
long_header : formula_of (codes "c\np cnf 1 1 0\n") ≡ fault 2 BadHeader
long_header = refl

negative_count : formula_of (codes "p cnf 1 -1\n") ≡ fault 1 BadHeader
negative_count = refl

many_variables : formula_of (codes "p cnf 2147483648 0\n") ≡ fault 1 BadHeader
many_variables = refl

clause_before_header : formula_of (codes "1 0\np cnf 1 1\n") ≡ fault 1 BadHeader
clause_before_header = refl

nothing : formula_of [] ≡ fault 1 BadHeader
nothing = refl

comment_only : formula_of (codes "c\nc\n") ≡ fault 2 BadHeader
comment_only = refl

other_form : formula_of (codes "p sat 1\n") ≡ fault 1 BadHeader
other_form = refl

-- ---- edges

abbrev arc : ℤ → ℤ → Literal → LitEdge
arc from to lit = record { from = from; to = to; lit = lit }

-- a cycle of two edges
abbrev two_edges : Clauses
two_edges = record {
  vars = 2;
  hard = (Pos 1 ∷ Pos 2 ∷ []) ∷ [];
  edges = arc (pos 1) (pos 2) (Pos 1) ∷ arc (pos 2) (pos 1) (Pos 2) ∷ [];
  soft = [];
  top = 1;
}

edges_by_lines : formula_of (codes "p ecnf 2 1 2\n1 2 0\ne 1 2 1\nc\n\n e 2 1 2\r\n") ≡ Ok two_edges
edges_by_lines = refl

edges_alone : formula_of (codes "p ecnf 1 0 1\ne -3 0 -1\n")
    ≡ Ok (record { vars = 1; hard = []; edges = arc (negsuc 2) (pos 0) (Neg 1) ∷ []; soft = []; top = 1 })
edges_alone = refl

-- behind the last clause, in its line
edge_in_a_clause_line : formula_of (codes "p ecnf 1 1 1\n1 0 e 1 2 1\n") ≡ fault 2 WrongCount
edge_in_a_clause_line = refl

fewer_edges : formula_of (codes "p ecnf 1 1 1\n1 0\n") ≡ fault 2 WrongCount
fewer_edges = refl

more_edges : formula_of (codes "p ecnf 1 1 1\n1 0\ne 1 2 1\ne 2 1 1\n") ≡ fault 4 WrongCount
more_edges = refl

edge_without_literal : formula_of (codes "p ecnf 1 0 1\ne 1 2\n") ≡ fault 2 BadEdge
edge_without_literal = refl

edge_of_zero : formula_of (codes "p ecnf 1 0 1\ne 1 2 0\n") ≡ fault 2 BadEdge
edge_of_zero = refl

fifth_token : formula_of (codes "p ecnf 1 0 1\ne 1 2 1 0\n") ≡ fault 2 BadEdge
fifth_token = refl

wide_node : formula_of (codes "p ecnf 1 0 1\ne 2147483648 2 1\n") ≡ fault 2 BadEdge
wide_node = refl

-- from the first field to the last
literal_before_the_rest : formula_of (codes "p ecnf 1 0 1\ne 1 2 99 x\n") ≡ fault 2 LiteralOutOfRange
literal_before_the_rest = refl

edge_number_absent : formula_of (codes "p ecnf 1 1\n1 0\n") ≡ fault 1 BadHeader
edge_number_absent = refl

-- ---- weights

abbrev paid : ℕ → List Literal → SoftClause
paid weight lits = record { weight = weight; lits = lits }

-- clauses of weight 5 and more are hard
abbrev hard_and_soft : Clauses
hard_and_soft = record {
  vars = 2;
  hard = (Pos 1 ∷ Neg 2 ∷ []) ∷ (Pos 2 ∷ []) ∷ [];
  edges = [];
  soft = paid 3 (Neg 1 ∷ []) ∷ paid 1 [] ∷ [];
  top = 5;
}

weights : formula_of (codes "p wcnf 2 4 5\n3 -1 0\n5 1\n-2 0 1 0\n7 2 0\n") ≡ Ok hard_and_soft
weights = refl

no_weights : formula_of (codes "p wcnf 1 0 1\n") ≡ Ok (record { vars = 1; hard = []; edges = []; soft = []; top = 1 })
no_weights = refl

zero_weight : formula_of (codes "p wcnf 1 1 2\n0 1 0\n") ≡ fault 2 ZeroWeight
zero_weight = refl

negative_weight : formula_of (codes "p wcnf 1 1 2\n\n-1 1 0\n") ≡ fault 3 ZeroWeight
negative_weight = refl

word_weight : formula_of (codes "p wcnf 1 1 2\nh 1 0\n") ≡ fault 2 BadNumber
word_weight = refl

weight_alone : formula_of (codes "p wcnf 1 1 2\n1\n") ≡ fault 2 NoEnd
weight_alone = refl

fewer_weights : formula_of (codes "p wcnf 1 1 2\n") ≡ fault 1 WrongCount
fewer_weights = refl

zero_top : formula_of (codes "p wcnf 1 1 0\n1 1 0\n") ≡ fault 1 BadHeader
zero_top = refl

-- ---- what is written

clauses_written : cnf_text (over_two all_four)
    ≡ codes "p cnf 2 4\n-1 -2 0\n1 2 0\n-2 -1 0\n2 1 0\n"
unfolding digits
clauses_written = refl

no_clauses_written : cnf_text (hard_only 0 []) ≡ codes "p cnf 0 0\n"
unfolding digits
no_clauses_written = refl

empty_clause_written : cnf_text (hard_only 0 ([] ∷ [])) ≡ codes "p cnf 0 1\n0\n"
unfolding digits
empty_clause_written = refl

edges_written : ecnf_text two_edges ≡ codes "p ecnf 2 1 2\n1 2 0\ne 1 2 1\ne 2 1 2\n"
unfolding digits
edges_written = refl

weights_written : wcnf_text hard_and_soft ≡ codes "p wcnf 2 4 5\n5 1 -2 0\n5 2 0\n3 -1 0\n1 0\n"
unfolding digits
weights_written = refl
