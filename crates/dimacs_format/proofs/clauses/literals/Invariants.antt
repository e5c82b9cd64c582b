-- The literals so far stand in front of the rest of the clause.
use Rattle.std.proofs.Common.{◌≡◌, length}
use Rattle.std.specs.List.{AllByRecursion}
use Rattle.clause_store.specs.Facts.{IsOver}
use Rattle.dimacs_format.specs.Read.{clause}
use Rattle.dimacs_format.specs.private.Walks.{items_left, onto}
use Rattle.dimacs_format.proofs.clauses.literals.Given as goal

-- the literals so far, in front of the rest of the clause, are the whole clause
abbrev pub invariant-literals : goal.invariant-literals
invariant-literals l = record {
  same : onto l.lits.items (clause l.scan.last l.vars (items_left l.scan)) ≡ clause l.fn.scan.last l.vars (items_left l.fn.scan);
  over : AllByRecursion (IsOver l.vars) l.lits.items;
  last : l.scan.last ≡ l.fn.scan.last;
}

abbrev pub decreases-literals : goal.decreases-literals
decreases-literals l = length (items_left l.scan)
