-- None of the components so far is cyclic.
use Rattle.std.proofs.Common.{◌≡◌, ◌≤◌, ℕ, false}
use Rattle.graph_parts.specs.Divided.{is_cyclic_at}
use Rattle.level_ranking.proofs.ranking.has_cyclic.Given as goal

abbrev pub invariant-loop-before : goal.invariant-loop-before
invariant-loop-before l = (i : ℕ) → 1 ≤ i → i ≤ l.before → is_cyclic_at l.parts.cyclic i ≡ false
