-- A store with one clause more, or none, is a store.
use Rattle.std.proofs.Common.{sym, subst}
use Rattle.std.specs.List.{AllByRecursion}
use Rattle.clause_store.specs.Facts.{IsOver}
use Rattle.clause_store.specs.private.InsideStore.{stored_of}
use Rattle.clause_store.proofs.StoreLaws.{IsStore-pushed}
use Rattle.clause_store.proofs.store.Store.clause.Goals as goal

pub invariant_of-self : goal.invariant_of-self
invariant_of-self c =
    let over = subst (λ s. AllByRecursion (IsOver s.vars) c.args.lits.now) (sym c.self.view_is) c.requires in
    IsStore-pushed (stored_of c.self.inside) c.push.new.self c.args.lits.now c.push.result c.self.invariant over c.push.ensures.ok c.push.ensures.err
