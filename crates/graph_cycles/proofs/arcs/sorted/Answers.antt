use Rattle.std.proofs.Common.{◌≡◌, ◌&&◌, sym, ◌∙◌, ap, rules}
use Rattle.std.specs.Ordering.{int_eq}
use Rattle.std.proofs.lemmas.List.Sorted.{list_any-IsPermutation}
use Rattle.graph_cycles.specs.Cycle.{leads}
use Rattle.graph_cycles.proofs.ArcLaws.{ascends-from_sorted}
use Rattle.graph_cycles.proofs.arcs.sorted.Goals as goal

pub returns-clause-ascends : goal.returns-clause-ascends
returns-clause-ascends c = ascends-from_sorted _ c.sort_unstable.ensures.sorted

pub returns-clause-same : goal.returns-clause-same
returns-clause-same c = λ from to. let copied : c.in_ok-arcs.arcs.items ≡ c.args.edges.now = search rules in
    sym (list_any-IsPermutation (λ edge. int_eq edge.0 from && int_eq edge.1 to) _ _ c.sort_unstable.ensures.permutation) ∙ ap (λ arcs. leads arcs from to) copied
