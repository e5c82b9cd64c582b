-- What the fields of a formula stand for.
use Rattle.clause_store.specs.Clauses.{Clauses}
use Rattle.clause_store.specs.declared.formula.Formula.TheInside.{Inside}

abbrev pub clauses_of : Inside → Clauses
clauses_of f = record { vars = f.vars; hard = f.hard; edges = f.edges; soft = f.soft; top = f.top }
