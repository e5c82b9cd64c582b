-- A component is added where it is cyclic, and else there is nothing to add.
use Rattle.std.proofs.Common.{◌∙◌, sym, subst, ◌<◌, ◌+◌, ◌^◌, arith}
use Rattle.level_ranking.proofs.PartLoops.{part-cyclic, parts-room, parts-next, parts-skip}
use Rattle.level_ranking.proofs.ranking.add_components.Goals as goal
use Rattle.level_ranking.proofs.ranking.add_components.Goals.{then-is_cyclic+in_ok-add_component, else-is_cyclic}

pub add_component-requires-clause-cyclic : goal.add_component-requires-clause-cyclic
add_component-requires-clause-cyclic c =
    part-cyclic c.args.sources.now.given.program.now c.args.sources.now.given.parts.now c.args.store.now c.loop-i.store c.loop-i.i (subst (λ n. c.loop-i.i < n) c.count-i-end.ensures c.loop-i-test.true) c.loop-i.invariant
    (sym c.is_cyclic.ensures ∙ c.if-is_cyclic.true)

pub add_component-requires-clause-room : goal.add_component-requires-clause-room
add_component-requires-clause-room c =
    parts-room c.args.sources.now.given.program.now c.args.sources.now.given.parts.now c.args.store.now c.loop-i.store c.loop-i.i (subst (λ n. c.loop-i.i < n) c.count-i-end.ensures c.loop-i-test.true) c.loop-i.invariant
    (sym c.is_cyclic.ensures ∙ c.if-is_cyclic.true) (2 ^ 31) c.requires.room

pub loop-i-preserved : goal.loop-i-preserved
loop-i-preserved c =
    elim c.if-is_cyclic.branch [
      | then-is_cyclic+in_ok-add_component w ↦ rw w.store-is
          (parts-next c.args.sources.now.given.program.now c.args.sources.now.given.parts.now c.args.store.now c.loop-i.store c.loop-i.i (subst (λ n. c.loop-i.i < n) c.count-i-end.ensures c.loop-i-test.true) c.loop-i.invariant
          (sym c.is_cyclic.ensures ∙ w.if-is_cyclic.true) (c.loop-i.i + 1) (omega arith) w.add_component.new.store w.in_ok-add_component.ensures.store w.in_ok-add_component.ensures.from w.in_ok-add_component.ensures.few)
      | else-is_cyclic w ↦ rw w.store-is
          (parts-skip c.args.sources.now.given.program.now c.args.sources.now.given.parts.now c.args.store.now c.loop-i.store c.loop-i.i (subst (λ n. c.loop-i.i < n) c.count-i-end.ensures c.loop-i-test.true) c.loop-i.invariant
          (sym c.is_cyclic.ensures ∙ w.if-is_cyclic.false) (c.loop-i.i + 1) (omega arith))
    ]
