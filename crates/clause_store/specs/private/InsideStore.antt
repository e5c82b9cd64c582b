-- What the fields of a store stand for.
use Rattle.clause_store.specs.Stored.{Stored}
use Rattle.clause_store.specs.declared.store.Store.TheInside.{Inside}

abbrev pub stored_of : Inside → Stored
stored_of s = record {
  vars = s.vars;
  hard = s.hard;
  edges = s.edges;
  soft = s.soft;
  known = s.known;
}
