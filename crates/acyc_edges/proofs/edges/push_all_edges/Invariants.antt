-- What the loop of `push_all_edges` has done so far.
use Rattle.std.proofs.Common.{◌≡◌, ◌++◌, take}
use Rattle.std.specs.List.{flat_map}
use Rattle.acyc_edges.specs.private.Setting.{edges_by}
use Rattle.acyc_edges.proofs.edges.push_all_edges.Given as goal

abbrev pub invariant-loop-name : goal.invariant-loop-name
invariant-loop-name l = l.edges ≡ l.initial.edges ++ flat_map (edges_by l.writer.setting.now l.writer.numbers.now) (take l.name-index l.names)
