use Rattle.std.proofs.Common.{◌≡◌, ◌<◌, length, arith, refl, ap}
use Rattle.graph_cycles.specs.private.Arcs.{arc_at}
use Rattle.graph_cycles.specs.private.Searching.{is_unseen}
use Rattle.graph_cycles.specs.declared.descent.Mark.TheVariants.{OnPath}
use Rattle.graph_cycles.proofs.SearchingLaws.{mark-set-same, searching-open, seen-set}
use Rattle.graph_cycles.proofs.descent.Descent.descend.Goals as goal

pub loop-self-init : goal.loop-self-init
loop-self-init c =
    let none : length c.args.self.now.path.items ≡ 0 = ap length c.requires.empty in
    let low = c.requires.starts.within in
    let sized = c.requires.searching.sized in
    let within : c.args.start < length c.args.self.now.marks.items = omega arith in
    rw (c.in_ok-open.ensures.marks, c.in_ok-open.ensures.path) (
      searching-open c.args.arcs.now c.args.self.now.marks.items c.args.self.now.path.items c.args.start c.requires.searching (arc_at c.args.arcs.now c.args.start).0 c.requires.starts c.requires.unseen (λ k end. absurd (omega arith)),
      ap is_unseen (mark-set-same c.args.self.now.marks.items c.args.start (OnPath (length c.args.self.now.path.items)) within),
      seen-set c.args.self.now.marks.items c.args.start (OnPath (length c.args.self.now.path.items)) within refl,
    )
