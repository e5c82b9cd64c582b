-- Soft clauses that are added to a store, and what they weigh together.
use Rattle.std.specs.Prelude.{ℕ, ◌+◌, List, [], ◌∷◌, ◌++◌}
use Rattle.clause_store.specs.Stored.{Stored}
use Rattle.clause_store.specs.declared.formula.SoftClause.{SoftClause}

-- soft clauses behind those of a store
abbrev pub with_soft : List SoftClause → Stored → Stored
with_soft clauses s = record s { soft = s.soft ++ clauses }

-- the sum of the weights: the cost where no clause has a true literal
abbrev pub weights_of : List SoftClause → ℕ
weights_of [] = 0
weights_of (clause ∷ clauses) = clause.weight + weights_of clauses
