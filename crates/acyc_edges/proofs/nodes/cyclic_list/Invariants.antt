-- What the loop of `cyclic_list` has done so far.
use Rattle.std.proofs.Common.{◌≡◌, take, filter}
use Rattle.acyc_edges.specs.Encoding.{is_cyclic}
use Rattle.components.specs.Divided.{cyclic_numbers, part_of}
use Rattle.acyc_edges.proofs.nodes.cyclic_list.Given as goal

abbrev pub invariant-loop-atom : goal.invariant-loop-atom
invariant-loop-atom l = l.list.items ≡ filter (is_cyclic l.program (part_of l.parts) (cyclic_numbers l.parts)) (take l.atom-index l.program.atoms)
