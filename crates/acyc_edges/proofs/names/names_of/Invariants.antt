-- What the loop of `names_of` has done so far.
use Rattle.std.proofs.Common.{◌≡◌, filter}
use Rattle.std.specs.List.{flat_map, range_with_len}
use Rattle.graph_parts.specs.Divided.{is_cyclic_at}
use Rattle.acyc_edges.specs.private.Kinds.{names_in}
use Rattle.acyc_edges.proofs.names.names_of.Given as goal

abbrev pub invariant-loop-number : goal.invariant-loop-number
invariant-loop-number l = l.names.items ≡ flat_map (names_in l.kind l.setting) (filter (is_cyclic_at l.setting.parts.cyclic) (range_with_len 1 l.number))
