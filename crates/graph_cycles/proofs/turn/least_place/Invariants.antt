use Rattle.std.proofs.Common.{ℕ, ◌<◌, ◌≤◌, ℤ, ◌≤ℤ◌, length, get_or}
use Rattle.graph_cycles.proofs.turn.least_place.Given as goal

abbrev pub invariant-loop-k : goal.invariant-loop-k
invariant-loop-k l = (l.least ≤ l.k) × (l.least < length l.nodes) × ((k : ℕ) (d : ℤ) → k < l.k → get_or l.nodes l.least d ≤ℤ get_or l.nodes k d)
