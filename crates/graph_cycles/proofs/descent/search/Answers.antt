use Rattle.std.proofs.Common.{◌≡◌, ◌≢◌, ap, w32, arith, refl, subst, sym, ⊎_elim, rules, SFits}
use Rattle.std.specs.Option.{is_some}
use Rattle.std.proofs.lemmas.Bool.{cases_eq}
use Rattle.std.proofs.lemmas.Int.{to_z-of_z}
use Rattle.graph_cycles.specs.private.Arcs.{arc_at}
use Rattle.graph_cycles.specs.private.Searching.{Settled}
use Rattle.graph_cycles.proofs.SearchingLaws.{searching-new}
use Rattle.graph_cycles.proofs.descent.search.Goals as goal

pub loop-arc-init : goal.loop-arc-init
loop-arc-init c = rw (c.in_ok-descent.ensures.marks, c.in_ok-descent.ensures.path) (searching-new c.args.arcs.now c.requires, refl, λ j below. absurd (omega arith))

pub loop-arc-preserved : goal.loop-arc-preserved
loop-arc-preserved c =
    let none = ap is_some c.in_default.is in
    let fits : SFits w32 (arc_at c.args.arcs.now c.loop-arc.arc-index).0 = search rules in
    let here = subst (Settled c.args.arcs.now c.explore.new.self.marks.items) (to_z-of_z w32 (arc_at c.args.arcs.now c.loop-arc.arc-index).0 fits) (c.in_ok-place.ensures.settled none) in (
      c.in_ok-place.ensures.searching none,
      c.in_ok-place.ensures.empty none,
      λ j below. ⊎_elim (λ (same : j ≡ c.loop-arc.arc-index). subst (λ i. Settled c.args.arcs.now c.explore.new.self.marks.items (arc_at c.args.arcs.now i).0) (sym same) here)
          (λ (differ : j ≢ c.loop-arc.arc-index). c.in_ok-place.ensures.stays none (arc_at c.args.arcs.now j).0 (c.loop-arc.invariant.2 j (omega arith)))
          (cases_eq j c.loop-arc.arc-index),
    )
