-- What the loop of `push_all_both` has done so far.
use Rattle.std.proofs.Common.{◌≡◌, ◌++◌, [], take}
use Rattle.std.specs.List.{flat_map}
use Rattle.acyc_edges.specs.Encoding.{both_names}
use Rattle.acyc_edges.proofs.names.push_all_both.Given as goal
use Rattle.components.specs.Divided.{part_of}

abbrev pub invariant-loop-atom : goal.invariant-loop-atom
invariant-loop-atom l = l.names.items ≡ l.initial.names.items ++ flat_map (both_names l.setting.program (part_of l.setting.parts) []) (take l.atom-index l.atoms)
