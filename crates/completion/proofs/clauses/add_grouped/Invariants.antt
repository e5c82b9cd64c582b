use Rattle.std.proofs.Common.{◌≡◌, ◌-◌}
use Rattle.clause_store.specs.Stored.{with_clauses}
use Rattle.completion.specs.private.Definitions.{clauses_up_to}
use Rattle.completion.proofs.clauses.add_grouped.Given as goal

abbrev pub invariant-loop-variable : goal.invariant-loop-variable
invariant-loop-variable l = record {
  store : l.store ≡ with_clauses (clauses_up_to l.groups.starts l.groups.values l.literals (l.variable - 1)) l.initial.store;
  vars : l.store.vars ≡ l.initial.store.vars;
}
