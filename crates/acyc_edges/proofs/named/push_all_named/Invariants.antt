-- What the loop of `push_all_named` has done so far.
use Rattle.std.proofs.Common.{◌≡◌, ◌++◌, take}
use Rattle.std.specs.List.{flat_map}
use Rattle.acyc_edges.specs.private.Setting.{rules_by}
use Rattle.acyc_edges.proofs.named.push_all_named.Given as goal

abbrev pub invariant-loop-name : goal.invariant-loop-name
invariant-loop-name l = l.rules ≡ l.initial.rules ++ flat_map (rules_by l.writer.setting.now l.writer.numbers.now) (take l.name-index l.names)
