use Rattle.std.proofs.Common.{is_some, ap, sym, subst, rules}
use Rattle.asp_base.specs.Walks.{Acyclic}
use Rattle.graph_cycles.specs.Cycle.{leads, IsCycle}
use Rattle.graph_cycles.specs.private.Loop.{IsLoop}
use Rattle.graph_cycles.proofs.ArcLaws.{same-leads}
use Rattle.graph_cycles.proofs.LoopLaws.{loop-some}
use Rattle.graph_cycles.proofs.search.find_cycle.Goals as goal

pub returns-in-None-clause-none : goal.returns-in-None-clause-none
returns-in-None-clause-none c = λ _.
    let same = same-leads c.as_slice.result.now c.in_ok-arcs.arcs.items c.args.edges.now c.as_slice.ensures.value c.in_ok-arcs.ensures.same in
    subst Acyclic same (c.in_ok-search.ensures.none (ap is_some c.in-None.is))

pub returns-clause-cycle : goal.returns-clause-cycle
returns-clause-cycle c =
    let same = same-leads c.as_slice.result.now c.in_ok-arcs.arcs.items c.args.edges.now c.as_slice.ensures.value c.in_ok-arcs.ensures.same in
    let loop : IsLoop (leads c.as_slice.result.now) c.in-Some.nodes.items = search rules in
    subst (λ step. IsCycle step c.from_vec.result) same (subst (IsCycle (leads c.as_slice.result.now)) (sym c.from_vec.ensures) (c.in_ok-turned-in-Some.ensures (leads c.as_slice.result.now) loop))

pub turned-requires : goal.turned-requires
turned-requires c =
    let loop : IsLoop (leads c.as_slice.result.now) c.in-Some.nodes.items = search rules in
    loop-some (leads c.as_slice.result.now) c.in-Some.nodes.items loop
