-- Gates of tables: a new variable to which the clauses of a table give one value (G. S. Tseitin, On
-- the complexity of derivation in propositional calculus, 1968).
use Rattle.std.specs.Prelude.{◌≡◌, suc, ℤ, Bool, true, List, ◌++◌, map}
use Rattle.asp_base.specs.Literal.{Literal, Pos}
use Rattle.asp_base.specs.Sets.{Set}
use Rattle.gate_tables.specs.Rows.{table_value, table_clauses}
use Rattle.clause_store.specs.Extension.{Extends}
use Rattle.clause_store.specs.Facts.{IsOver}
use Rattle.clause_store.specs.Models.{is_true, clauses_true}
use Rattle.clause_store.specs.Stored.{Stored}

-- one variable more, with a clause for each row of the table
abbrev pub after_gate : List (List ℤ × ℤ) → List Literal → Stored → Stored
after_gate rows inputs s = record s {
  vars = suc s.vars;
  hard = s.hard ++ table_clauses rows inputs (Pos (suc s.vars));
}

abbrev pub values_at : Set → List Literal → List Bool
values_at A lits = map (λ l. is_true l A) lits

-- The literal has the table's value for the inputs: the later clauses extend the earlier ones, and
-- wherever they are true, the literal is true just where the table says so.
pub record IsGateOf (rows : List (List ℤ × ℤ)) (inputs : List Literal) (old new : Stored)
    (l : Literal) : Type 0 where
  pub extends : Extends old new
  pub over : IsOver new.vars l
  pub says : (A : Set) → clauses_true new.hard A ≡ true
      → is_true l A ≡ table_value rows (values_at A inputs)
