-- What the loop of `ends_of` has done so far.
use Rattle.std.proofs.Common.{◌≡◌, [], take}
use Rattle.std.specs.List.{flat_map}
use Rattle.acyc_edges.specs.Encoding.{inner_at, rules_of}
use Rattle.acyc_edges.proofs.setting.Setting.ends_of.Given as goal
use Rattle.components.specs.Divided.{part_of}

abbrev pub invariant-loop-index : goal.invariant-loop-index
invariant-loop-index l = l.list.items ≡ flat_map (inner_at l.self.program (part_of l.self.parts) []) (take l.index-index (rules_of l.self.program (part_of l.self.parts) [] l.atom))
