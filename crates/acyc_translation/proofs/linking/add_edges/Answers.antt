-- One edge more.
use Rattle.std.proofs.Common.{◌≡◌, ◌∙◌, sym, ap, subst, ℕ, ◌+◌, ◌<◌, List, [], ◌∷◌, ◌++◌, length, take, arith}
use Rattle.std.specs.List.{AllByRecursion}
use Rattle.std.proofs.lemmas.List.{take_more, drop_more}
use Rattle.ground_program.specs.Facts.{Among, LiteralsFit}
use Rattle.ground_program.specs.declared.program.Edge.{Edge}
use Rattle.acyc_translation.specs.private.Linked.{Linked}
use Rattle.acyc_translation.proofs.EdgeLinks.{Linked-next}
use Rattle.acyc_translation.proofs.linking.add_edges.Goals as goal

pub loop-edge-preserved : goal.loop-edge-preserved
loop-edge-preserved c =
    let edges : List Edge = c.args.edges.now in
    let i : ℕ = c.loop-edge.edge-index in
    let x : Edge = c.edge-item.result in
    let below : i < length edges = omega (arith, c.loop-edge-test.true) in
    let front : take (i + 1) edges ≡ take i edges ++ (x ∷ []) = take_more edges i x below ∙ ap (λ y. take i edges ++ (y ∷ [])) (sym c.edge-item.is) in
    record {
      linked = subst (λ es. Linked c.args.atoms.now es c.args.store.now c.add_edge.new.store) (sym front)
          (Linked-next c.args.atoms.now (take i edges) x c.args.store.now c.loop-edge.store c.add_edge.new.store c.loop-edge.invariant.linked c.in_ok-add_edge.ensures);
      fit = (subst (AllByRecursion (λ edge. LiteralsFit (Among c.args.atoms.now) edge.condition)) (drop_more edges i x below) c.loop-edge.invariant.fit).1;
    }
