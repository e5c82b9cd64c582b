-- Walks from node to node, put together.
use Rattle.std.proofs.Common.{◌≡◌, ◌⊎◌, subst, sym, ⊎_elim, Bool, true, [], ◌∷◌, ◌++◌}
use Rattle.asp_base.specs.Walks.{Reaches}
use Rattle.graph_cycles.proofs.WalkLaws.{walk-join}

module _ {N : Type 0} (step : N → N → Bool) where
  pub reaches-step : (from to : N) → step from to ≡ true → Reaches step from to
  reaches-step from to e = ([], e)

  pub reaches-join : (from mid to : N) → Reaches step from mid → Reaches step mid to
      → Reaches step from to
  reaches-join from mid to r s = (r.0 ++ (mid ∷ s.0), walk-join step from r.0 mid s.0 to r.1 s.1)

  -- from a node to itself or another one
  abbrev pub Gets : N → N → Type 0
  Gets from to = (from ≡ to) ⊎ Reaches step from to

  pub gets-then : (from mid to : N) → Gets from mid → Reaches step mid to → Reaches step from to
  gets-then from mid to g r = ⊎_elim (λ e. subst (λ n. Reaches step n to) (sym e) r)
      (λ s. reaches-join from mid to s r) g

  pub then-gets : (from mid to : N) → Reaches step from mid → Gets mid to → Reaches step from to
  then-gets from mid to r g = ⊎_elim (λ e. subst (λ n. Reaches step from n) e r)
      (λ s. reaches-join from mid to r s) g
