-- What makes a node reach itself, where nodes with the same number are those that reach each other: another node with its
-- number, or a step to itself.
use Rattle.std.proofs.Common.{◌≡◌, ◌≢◌, ℕ, ◌⊎◌, Bool, true, List, [], ◌∷◌, ◌++◌, sym, subst, ⊎_elim, inl, inr}
use Rattle.std.specs.Prelude.{◌↔◌}
use Rattle.std.proofs.lemmas.Bool.{cases_eq}
use Rattle.asp_base.specs.Walks.{IsWalk, Reaches}
use Rattle.graph_cycles.proofs.WalkLaws.{walk-join}
use Rattle.graph_parts.specs.Parts.{Together}

module _ (step : ℕ → ℕ → Bool) (Node : ℕ → Type 0) (number : ℕ → ℕ) (same : (u v : ℕ) → Node u → Node v → (number u ≡ number v) ↔ Together step u v) where
  abbrev Other : ℕ → Type 0
  Other u = (v : ℕ) × Node v × (v ≢ u) × (number v ≡ number u)

  pub large-or-loop : ((v u : ℕ) → Node u → Reaches step v u → Node v) → (u : ℕ) → Node u → (by : List ℕ) → IsWalk step u by u → Other u ⊎ (step u u ≡ true)
  large-or-loop leaves u node [] walk = inr walk
  large-or-loop leaves u node (v ∷ by) walk =
      ⊎_elim (λ (is : v ≡ u). inr (subst (λ w. step u w ≡ true) is walk.0))
      (λ (apart : v ≢ u).
      let other : Node v = leaves v u node (by, walk.1) in
      inl (v, other, apart, (same v u other node).1 (inr ((by, walk.1), ([], walk.0)))))
      (cases_eq v u)

  pub reaches-itself : (u : ℕ) → Node u → Other u ⊎ (step u u ≡ true) → Reaches step u u
  reaches-itself u node either = ⊎_elim
      (λ (other : Other u). ⊎_elim
      (λ (is : u ≡ other.0). absurd (other.2 (sym is)))
      (λ (both : Reaches step u other.0 × Reaches step other.0 u). (both.0.0 ++ (other.0 ∷ both.1.0), walk-join step u both.0.0 other.0 both.1.0 u both.0.1 both.1.1))
      ((same u other.0 node other.1).0 (sym other.3)))
      (λ (self : step u u ≡ true). ([], self))
      either
