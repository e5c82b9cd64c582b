-- Between the rounds the search is as it should be, and the first node stays found.
use Rattle.std.proofs.Common.{◌≡◌, false}
use Rattle.std.specs.Option.{is_none}
use Rattle.graph_parts.specs.private.Searching.{Searches, StaysFound, place_at, weight_of}
use Rattle.graph_parts.proofs.search.Search.explore_new.Given as goal

abbrev pub invariant-loop-self : goal.invariant-loop-self
invariant-loop-self l = Searches l.starts l.targets l.self × (is_none (place_at l.self.places.items l.node) ≡ false) × StaysFound l.fn.self.places.items l.self.places.items

abbrev pub decreases-loop-self : goal.decreases-loop-self
decreases-loop-self l = weight_of l.targets l.self
