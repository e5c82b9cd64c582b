use Rattle.std.proofs.Common.{◌≡◌, ap, of_z, w32, arith, rules}
use Rattle.std.specs.Int.RustNames.{int_lt}
use Rattle.std.proofs.lemmas.Int.{ints}
use Rattle.std.proofs.lemmas.List.Sorted.{IsPartitionPoint-from_clause}
use Rattle.graph_cycles.specs.private.Arcs.{arc_at}
use Rattle.graph_cycles.proofs.ArcLaws.{parted, starts-at, starts-not}
use Rattle.graph_cycles.proofs.arcs.start_of.Goals as goal
use Rattle.graph_cycles.proofs.arcs.start_of.Goals.{else-start-arcs-via-then-start-arcs+else-arcs-start, else-start-arcs-via-else-start-arcs}

pub returns-then-arcs-start-clause-start : goal.returns-then-arcs-start-clause-start
returns-then-arcs-start-clause-start c =
    let point = IsPartitionPoint-from_clause (λ arc. int_lt arc.0 c.args.node) _ _ c.partition_point-start.ensures.partitioned (parted c.args.arcs.now c.args.node c.requires) (λ a r q k. search rules) in
    let here : (arc_at c.args.arcs.now c.partition_point-start.result).0 ≡ c.args.node = grind (arith, ints) in
    starts-at c.args.arcs.now c.args.node c.partition_point-start.result point (omega arith) here

pub returns-else-start-arcs-clause-none : goal.returns-else-start-arcs-clause-none
returns-else-start-arcs-clause-none c = λ _.
    let point = IsPartitionPoint-from_clause (λ arc. int_lt arc.0 c.args.node) _ _ c.partition_point-start.ensures.partitioned (parted c.args.arcs.now c.args.node c.requires) (λ a r q k. search rules) in
    starts-not c.args.arcs.now c.args.node c.partition_point-start.result c.requires point (λ below here. elim c.else-start-arcs.branch [ else-start-arcs-via-then-start-arcs+else-arcs-start w ↦ w.if-arcs-start.false (ap (of_z w32) here) | else-start-arcs-via-else-start-arcs w ↦ omega arith ])
