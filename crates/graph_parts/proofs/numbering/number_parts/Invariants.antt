-- The chain is empty, and all nodes so far are found.
use Rattle.std.proofs.Common.{◌≡◌, ℕ, ◌<◌, [], false}
use Rattle.std.specs.Option.{is_none}
use Rattle.graph_parts.specs.private.Searching.{Searches, place_at}
use Rattle.graph_parts.proofs.numbering.number_parts.Given as goal

abbrev pub invariant-loop-node : goal.invariant-loop-node
invariant-loop-node l = Searches l.starts l.targets l.search × (l.search.bounds.items ≡ []) × ((u : ℕ) → u < l.node → is_none (place_at l.search.places.items u) ≡ false)
