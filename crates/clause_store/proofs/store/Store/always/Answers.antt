-- A store with a variable that is true is a store, and the variable stands for no literals.
use Rattle.std.proofs.Common.{rules, ◌+◌, ◌<◌, ◌-◌, ◌^◌, sym, subst, [], ◌∷◌, arith}
use Rattle.asp_base.specs.Literal.{Pos}
use Rattle.clause_store.specs.private.InsideStore.{stored_of}
use Rattle.clause_store.specs.private.Kept.{IsStore}
use Rattle.clause_store.proofs.StoreLaws.{IsStore-clauses, always-stands}
use Rattle.clause_store.proofs.store.Store.always.Goals as goal

pub invariant_of-self-2 : goal.invariant_of-self-2
invariant_of-self-2 c =
    let room = subst (λ s. s.vars < 2 ^ 31 - 1) (sym c.self.view_is) c.requires in
    rw (c.in_ok-push.ensures.ok, c.positive-lit.ensures)
    (IsStore-clauses (stored_of c.self.inside) (c.self.inside.vars + 1) ((Pos (c.self.inside.vars + 1) ∷ []) ∷ []) (omega arith) (omega (arith, room)) c.self.invariant (((omega arith, omega arith), tt), tt))

pub returns-clause-gate : goal.returns-clause-gate
returns-clause-gate c = always-stands c.args.self.now _ c.positive-lit.result (subst IsStore c.self.view_is c.self.invariant) (search rules) (search rules)
