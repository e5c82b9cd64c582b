-- What the loop of `kept_edges` has done so far.
use Rattle.std.proofs.Common.{◌≡◌, map, take}
use Rattle.components.specs.Divided.{cyclic_numbers, part_of}
use Rattle.acyc_edges.specs.Encoding.{node_of}
use Rattle.acyc_edges.proofs.edges.kept_edges.Given as goal

abbrev pub invariant-loop-edge : goal.invariant-loop-edge
invariant-loop-edge l = l.edges ≡ map (λ edge. record { from = node_of l.setting.program (part_of l.setting.parts) (cyclic_numbers l.setting.parts) edge.from; to = node_of l.setting.program (part_of l.setting.parts) (cyclic_numbers l.setting.parts) edge.to; condition = edge.condition }) (take l.edge-index l.setting.program.edges)
