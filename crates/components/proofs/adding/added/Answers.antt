-- A link is one step of the pass.
use Rattle.std.proofs.Common.{length, get_or, sym, ◌∙◌}
use Rattle.graph_parts.specs.Groups.{pair_at}
use Rattle.components.proofs.AddingLaws.{run-next, step-into, step-from}
use Rattle.components.proofs.adding.added.Goals.{then-from-first, else-from-first}
use Rattle.components.proofs.adding.added.Goals as goal

pub loop-edge-preserved : goal.loop-edge-preserved
loop-edge-preserved c = elim c.if-from-first.branch [
  | then-from-first w ↦ rw (w.last-is, w.sums-is) (record {
    runs = λ i low.
        run-next (length c.args.numbers.now) c.args.each i c.args.numbers.now c.args.costs.now c.args.edges.now c.loop-edge.edge-index (get_or c.loop-edge.last.items i 0, get_or c.loop-edge.sums.items i 0) _ c.loop-edge-test.true
        (w.enter.ensures.entered i ∙ sym (step-into (length c.args.numbers.now) c.args.each i c.args.numbers.now c.args.costs.now (pair_at c.args.edges.now c.loop-edge.edge-index).0 (pair_at c.args.edges.now c.loop-edge.edge-index).1 (get_or c.loop-edge.last.items i 0, get_or c.loop-edge.sums.items i 0) w.if-from-first.true))
        ∙ c.loop-edge.invariant.runs i low;
    last_sized = w.enter.ensures.last_sized ∙ c.loop-edge.invariant.last_sized;
    sums_sized = w.enter.ensures.sums_sized ∙ c.loop-edge.invariant.sums_sized;
  })
  | else-from-first w ↦ rw (w.last-is, w.sums-is) (record {
    runs = λ i low.
        run-next (length c.args.numbers.now) c.args.each i c.args.numbers.now c.args.costs.now c.args.edges.now c.loop-edge.edge-index (get_or c.loop-edge.last.items i 0, get_or c.loop-edge.sums.items i 0) _ c.loop-edge-test.true
        (w.meet.ensures.met i ∙ sym (step-from (length c.args.numbers.now) c.args.each i c.args.numbers.now c.args.costs.now (pair_at c.args.edges.now c.loop-edge.edge-index).0 (pair_at c.args.edges.now c.loop-edge.edge-index).1 (get_or c.loop-edge.last.items i 0, get_or c.loop-edge.sums.items i 0) w.if-from-first.false))
        ∙ c.loop-edge.invariant.runs i low;
    last_sized = c.loop-edge.invariant.last_sized;
    sums_sized = w.meet.ensures.sized ∙ c.loop-edge.invariant.sums_sized;
  })
]
