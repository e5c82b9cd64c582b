-- None so far is cyclic.
use Rattle.std.proofs.Common.{◌≡◌, ℕ, ◌≤◌, false}
use Rattle.graph_parts.specs.Divided.{is_cyclic_at}
use Rattle.components.proofs.finding.is_any_cyclic.Given as goal

abbrev pub invariant-loop-k : goal.invariant-loop-k
invariant-loop-k l = (i : ℕ) → 1 ≤ i → i ≤ l.k → is_cyclic_at l.parts.cyclic i ≡ false
