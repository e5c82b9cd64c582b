-- One more node marks its part, or does not.
use Rattle.std.proofs.Common.{◌≡◌, ◌+◌, true, length, get_or, set, arith, ap, sym, ◌∙◌, subst}
use Rattle.std.proofs.lemmas.List.{length-set}
use Rattle.graph_parts.specs.private.Marks.{AreMarked}
use Rattle.graph_parts.proofs.DividedLaws.{marked-more, marked-not}
use Rattle.graph_parts.proofs.dividing.cyclic_parts.Goals as goal
use Rattle.graph_parts.proofs.dividing.cyclic_parts.Goals.{then-leads_to, else-leads_to}

pub loop-node-preserved : goal.loop-node-preserved
loop-node-preserved c =
    elim c.if-leads_to.branch [
      | then-leads_to w ↦ (
          let e : c.if-leads_to.cyclic.items ≡ set c.loop-node.cyclic.items (get_or c.args.numbers.now c.loop-node.node 0) true = ap (λ v. v.items) w.cyclic-is in
          let most = c.requires.most c.loop-node.node c.loop-node-test.true in
          let sized = c.loop-node.invariant.sized in
          record {
            marked = subst (AreMarked c.args.starts.now c.args.targets.now c.args.numbers.now (c.loop-node.node + 1)) (sym e)
                (marked-more c.args.starts.now c.args.targets.now c.args.numbers.now c.loop-node.node c.loop-node.cyclic.items c.loop-node.invariant.marked (omega arith) (sym w.if-leads_to.ensures));
            sized = ap length e ∙ length-set c.loop-node.cyclic.items (get_or c.args.numbers.now c.loop-node.node 0) true ∙ sized;
          })
      | else-leads_to w ↦ (
          let e : c.if-leads_to.cyclic.items ≡ c.loop-node.cyclic.items = ap (λ v. v.items) w.cyclic-is in
          record {
            marked = subst (AreMarked c.args.starts.now c.args.targets.now c.args.numbers.now (c.loop-node.node + 1)) (sym e)
                (marked-not c.args.starts.now c.args.targets.now c.args.numbers.now c.loop-node.node c.loop-node.cyclic.items c.loop-node.invariant.marked (sym w.if-leads_to.ensures));
            sized = ap length e ∙ c.loop-node.invariant.sized;
          })
    ]
