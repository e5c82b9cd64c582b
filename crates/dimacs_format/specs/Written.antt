-- The CNF, ECNF and WCNF text of a formula, as the DIMACS formats have them: a header, and a line
-- for each clause, which a 0 closes. Hard clauses stand before soft ones, edges behind clauses.
use Rattle.std.specs.Prelude.{ℕ, ◌+◌, List, [], ◌∷◌, ◌++◌, map, length, codes}
use Rattle.std.specs.List.{flat_map}
use Rattle.std.specs.Fmt.{decimal, signed_decimal}
use Rattle.asp_base.specs.Literal.{Literal, integer_of}
use Rattle.asp_scan.specs.Words.{line_of}
use Rattle.clause_store.specs.Clauses.{Clauses}
use Rattle.clause_store.specs.declared.formula.LitEdge.{LitEdge}
use Rattle.clause_store.specs.declared.formula.SoftClause.{SoftClause}

abbrev pub literal_word : Literal → List ℕ
literal_word l = signed_decimal (integer_of l)

-- the literals of a clause, and the closing 0
abbrev pub clause_words : List Literal → List (List ℕ)
clause_words lits = map literal_word lits ++ (codes "0" ∷ [])

-- a line for each clause
abbrev pub clause_lines : List (List Literal) → List ℕ
clause_lines clauses = flat_map (λ clause. line_of (clause_words clause)) clauses

-- ---- CNF

-- p cnf, the number of variables, the number of clauses
abbrev pub header_words : Clauses → List (List ℕ)
header_words F = codes "p" ∷ codes "cnf" ∷ decimal F.vars ∷ decimal (length F.hard) ∷ []

abbrev pub cnf_text : Clauses → List ℕ
cnf_text F = line_of (header_words F) ++ clause_lines F.hard

-- ---- ECNF

-- p ecnf, the numbers of variables, of clauses and of edges
abbrev pub ecnf_header_words : Clauses → List (List ℕ)
ecnf_header_words F =
    codes "p" ∷ codes "ecnf" ∷ decimal F.vars ∷ decimal (length F.hard)
    ∷ decimal (length F.edges) ∷ []

-- e, both nodes, the literal
abbrev pub edge_words : LitEdge → List (List ℕ)
edge_words edge =
    codes "e" ∷ signed_decimal edge.from ∷ signed_decimal edge.to ∷ literal_word edge.lit ∷ []

abbrev pub edge_lines : List LitEdge → List ℕ
edge_lines edges = flat_map (λ edge. line_of (edge_words edge)) edges

abbrev pub ecnf_text : Clauses → List ℕ
ecnf_text F = line_of (ecnf_header_words F) ++ (clause_lines F.hard ++ edge_lines F.edges)

-- ---- WCNF

-- p wcnf, the numbers of variables and of clauses, and the top weight
abbrev pub wcnf_header_words : Clauses → List (List ℕ)
wcnf_header_words F =
    codes "p" ∷ codes "wcnf" ∷ decimal F.vars ∷ decimal (length F.hard + length F.soft)
    ∷ decimal F.top ∷ []

-- a weight, and the clause
abbrev pub weighted_words : ℕ → List Literal → List (List ℕ)
weighted_words weight lits = decimal weight ∷ clause_words lits

-- clauses of the top weight
abbrev pub hard_lines : ℕ → List (List Literal) → List ℕ
hard_lines top clauses = flat_map (λ lits. line_of (weighted_words top lits)) clauses

abbrev pub soft_lines : List SoftClause → List ℕ
soft_lines clauses = flat_map (λ clause. line_of (weighted_words clause.weight clause.lits)) clauses

abbrev pub wcnf_text : Clauses → List ℕ
wcnf_text F = line_of (wcnf_header_words F) ++ (hard_lines F.top F.hard ++ soft_lines F.soft)
