use Rattle.std.proofs.Common.{◌≡◌, false}
use Rattle.graph_cycles.specs.private.Searching.{Descends, StaysSeen, is_unseen, mark_at, weight_of}
use Rattle.graph_cycles.proofs.descent.Descent.descend.Given as goal

abbrev pub invariant-loop-self : goal.invariant-loop-self
invariant-loop-self l = Descends l.arcs l.self × (is_unseen (mark_at l.self.marks.items l.start) ≡ false) × StaysSeen l.fn.self.marks.items l.self.marks.items

abbrev pub decreases-loop-self : goal.decreases-loop-self
decreases-loop-self l = weight_of l.arcs l.self
