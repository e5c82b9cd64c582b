-- Clause tables. A row of a table stands for a clause over the inputs and the output of a gate
-- (G. S. Tseitin, On the complexity of derivation in propositional calculus, 1968): an entry of 1
-- for a variable itself, of -1 for its negation, of 0 for neither.
use Rattle.std.specs.Prelude.{◌≡◌, ℕ, zero, suc, ℤ, pos, negsuc, Bool, true, false, not, ◌&&◌, ◌||◌, ◌==◌, List, [], ◌∷◌, ◌++◌, map, length}
use Rattle.std.specs.List.{list_all}
use Rattle.std.specs.Ordering.{int_eq}
use Rattle.asp_base.specs.Literal.{Literal, negation}

-- the entry's literal is true where the variable has the value
abbrev pub entry_true : ℤ → Bool → Bool
entry_true (pos zero) value = false
entry_true (pos (suc n)) value = value
entry_true (negsuc n) value = not value

-- one of the literals of the entries is true
abbrev pub entries_true : List ℤ → List Bool → Bool
entries_true [] values = false
entries_true (entry ∷ entries) [] = false
entries_true (entry ∷ entries) (value ∷ values) =
    entry_true entry value || entries_true entries values

-- the clause of a row is true
abbrev pub row_true : List ℤ × ℤ → List Bool → Bool → Bool
row_true row values output = entries_true row.0 values || entry_true row.1 output

-- every clause of a table is true
abbrev pub rows_true : List (List ℤ × ℤ) → List Bool → Bool → Bool
rows_true rows values output = list_all (λ row. row_true row values output) rows

-- the output that a table has: true where the clauses are true with it
abbrev pub table_value : List (List ℤ × ℤ) → List Bool → Bool
table_value rows values = rows_true rows values true

-- ---- tables

-- all lists of so many values
abbrev pub all_values : ℕ → List (List Bool)
all_values zero = [] ∷ []
all_values (suc n) =
    map (λ values. true ∷ values) (all_values n) ++ map (λ values. false ∷ values) (all_values n)

-- 1 or -1
abbrev pub is_sign : ℤ → Bool
is_sign (pos zero) = false
is_sign (pos (suc zero)) = true
is_sign (pos (suc (suc n))) = false
is_sign (negsuc zero) = true
is_sign (negsuc (suc n)) = false

-- 1, -1 or 0
abbrev pub is_entry : ℤ → Bool
is_entry entry = is_sign entry || int_eq entry (pos 0)

-- so many entries for the inputs, and one for the output, which is never 0
abbrev pub is_row : ℕ → List ℤ × ℤ → Bool
is_row k row = (length row.0 == k) && (list_all is_entry row.0 && is_sign row.1)

abbrev pub differs : Bool → Bool → Bool
differs true b = not b
differs false b = b

-- just one output makes all clauses true, for each list of values of the inputs
abbrev pub has_one_output : ℕ → List (List ℤ × ℤ) → Bool
has_one_output k rows =
    list_all (λ values. differs (rows_true rows values true) (rows_true rows values false))
    (all_values k)

-- Both are tests, so that of given rows they are true by computation.
pub record IsTable (k : ℕ) (table : List (List ℤ × ℤ)) : Type 0 where
  pub rows : list_all (is_row k) table ≡ true
  pub one_output : has_one_output k table ≡ true

-- ---- clauses

-- the literal that an entry stands for
abbrev pub entry_literals : ℤ → Literal → List Literal
entry_literals (pos zero) l = []
entry_literals (pos (suc n)) l = l ∷ []
entry_literals (negsuc n) l = negation l ∷ []

abbrev pub entries_literals : List ℤ → List Literal → List Literal
entries_literals [] lits = []
entries_literals (entry ∷ entries) [] = []
entries_literals (entry ∷ entries) (l ∷ lits) =
    entry_literals entry l ++ entries_literals entries lits

-- the clause of a row over the literals of the inputs and the output
abbrev pub row_clause : List ℤ × ℤ → List Literal → Literal → List Literal
row_clause row inputs output = entries_literals row.0 inputs ++ entry_literals row.1 output

abbrev pub table_clauses : List (List ℤ × ℤ) → List Literal → Literal → List (List Literal)
table_clauses rows inputs output = map (λ row. row_clause row inputs output) rows
