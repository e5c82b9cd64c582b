use Rattle.std.proofs.Common.{◌≡◌, take, map}
use Rattle.graph_cycles.specs.private.Searching.{node_of}
use Rattle.graph_cycles.proofs.descent.nodes_from.Given as goal

abbrev pub invariant-loop-step : goal.invariant-loop-step
invariant-loop-step l = l.nodes.items ≡ map (node_of l.arcs) (take l.step-index l.step-items)
