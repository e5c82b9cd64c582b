use Rattle.std.proofs.Common.{◌≡◌, ℕ, ◌<◌, []}
use Rattle.graph_cycles.specs.private.Arcs.{arc_at}
use Rattle.graph_cycles.specs.private.Searching.{Descends, Settled}
use Rattle.graph_cycles.proofs.descent.search.Given as goal

abbrev pub invariant-loop-arc : goal.invariant-loop-arc
invariant-loop-arc l = Descends l.arcs l.descent × (l.descent.path.items ≡ []) × ((j : ℕ) → j < l.arc-index → Settled l.arcs l.descent.marks.items (arc_at l.arcs j).0)
