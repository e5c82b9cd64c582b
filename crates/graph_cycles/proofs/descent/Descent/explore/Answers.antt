use Rattle.std.proofs.Common.{◌≡◌, ◌<◌, false, length, w32, arith, ap, sym, ◌∙◌, subst}
use Rattle.std.proofs.lemmas.Int.{to_z-of_z}
use Rattle.graph_cycles.specs.private.Arcs.{Starts}
use Rattle.std.proofs.lemmas.List.{get_or_read}
use Rattle.graph_cycles.specs.private.Searching.{mark_at, is_unseen}
use Rattle.graph_cycles.specs.declared.descent.Mark.TheVariants.{Done}
use Rattle.graph_cycles.proofs.SearchingLaws.{not-unseen, seen-settled, settled-after, stays-after}
use Rattle.graph_cycles.proofs.descent.Descent.explore.Goals as goal

pub returns-in-Unseen-clause-settled : goal.returns-in-Unseen-clause-settled
returns-in-Unseen-clause-settled c = settled-after c.args.arcs.now c.descend.new.self.marks.items c.descend.new.self.path.items c.args.node c.in-Some.start (subst (λ node. Starts c.args.arcs.now node c.in-Some.start) (to_z-of_z w32 c.args.node c.ranges.node) c.in-Some.ensures.start) c.descend.result c.descend.ensures.searching c.descend.ensures.empty c.descend.ensures.start

pub returns-in-Unseen-clause-stays : goal.returns-in-Unseen-clause-stays
returns-in-Unseen-clause-stays c = stays-after c.args.arcs.now c.args.self.now.marks.items c.descend.new.self.marks.items c.descend.new.self.path.items c.descend.result c.descend.ensures.searching c.descend.ensures.empty c.descend.ensures.stays

pub returns-in_default-index-clause-settled : goal.returns-in_default-index-clause-settled
returns-in_default-index-clause-settled c = λ _.
    let starts : Starts c.args.arcs.now c.args.node c.in-Some.start = subst (λ node. Starts c.args.arcs.now node c.in-Some.start) (to_z-of_z w32 c.args.node c.ranges.node) c.in-Some.ensures.start in
    let low = starts.within in
    let sized = c.requires.searching.sized in
    let within : c.in-Some.start < length c.args.self.now.marks.items = omega arith in
    let mark : c.index.result.now ≡ mark_at c.args.self.now.marks.items c.in-Some.start = get_or_read c.args.self.now.marks.items c.in-Some.start c.index.result.now within c.index.ensures Done in
    let seen : is_unseen (mark_at c.args.self.now.marks.items c.in-Some.start) ≡ false = ap is_unseen (sym mark) ∙ not-unseen c.index.result.now c.in_default-index.not-Unseen in
    seen-settled c.args.arcs.now c.args.self.now.marks.items c.args.self.now.path.items c.requires.searching c.requires.empty c.args.node c.in-Some.start starts seen
