-- A store with a gate is a store, and its variable has the table's value.
use Rattle.std.proofs.Common.{rules, ◌≡◌, sym, subst, ◌+◌, ◌-◌, ◌<◌, ◌^◌, ◌++◌, length, arith}
use Rattle.std.specs.List.{AllByRecursion}
use Rattle.std.proofs.lemmas.Grind.{common_steps}
use Rattle.asp_base.specs.Literal.{Pos}
use Rattle.gate_tables.specs.Rows.{table_clauses}
use Rattle.clause_store.specs.Facts.{IsOver}
use Rattle.clause_store.specs.private.InsideStore.{stored_of}
use Rattle.clause_store.specs.private.Kept.{IsStore}
use Rattle.clause_store.proofs.TableGates.{gate-store, gate-at}
use Rattle.clause_store.proofs.store.Store.gate.Goals as goal

pub invariant_of-self-2 : goal.invariant_of-self-2
invariant_of-self-2 g c =
    let over = subst (λ s. AllByRecursion (IsOver s.vars) c.args.inputs) (sym c.self.view_is) c.requires.over in
    let room = subst (λ s. s.vars < 2 ^ 31 - 1) (sym c.self.view_is) c.requires.room in
    let hard : c.roll_back.new.self ≡ c.self.inside.hard ++ table_clauses c.args.table.now c.args.inputs (Pos (c.self.inside.vars + 1)) = grind (arith, common_steps) in
    rw hard (gate-store c.args.table.now c.args.inputs (stored_of c.self.inside) (c.self.inside.vars + 1) (omega arith) c.self.invariant over room)

pub returns-clause-gate : goal.returns-clause-gate
returns-clause-gate g c =
    let count : length c.args.inputs ≡ g.row.K = search rules in
    gate-at g.row.K c.args.table.now c.known.ensures.table c.args.inputs count c.args.self.now _ c.positive-output.result (subst IsStore c.self.view_is c.self.invariant) c.requires.over (search rules) (search rules)
