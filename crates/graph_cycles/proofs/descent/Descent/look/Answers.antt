use Rattle.std.proofs.Common.{ap, of_z, w32, arith}
use Rattle.graph_cycles.proofs.ArcLaws.{ended}
use Rattle.graph_cycles.proofs.descent.Descent.look.Goals as goal
use Rattle.graph_cycles.proofs.descent.Descent.look.Goals.{then-step-arcs-via-then-step-arcs, then-step-arcs-via-else-step-arcs+then-arcs-step}

pub returns-then-step-arcs : goal.returns-then-step-arcs
returns-then-step-arcs c = ended c.args.arcs.now c.requires.sorted c.args.step.start c.args.step.at c.requires.begun
    (λ below here. elim c.then-step-arcs.branch [ then-step-arcs-via-then-step-arcs w ↦ omega arith | then-step-arcs-via-else-step-arcs+then-arcs-step w ↦ w.if-arcs-step.true (ap (of_z w32) here) ])
