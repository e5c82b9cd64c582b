-- What the loop of `push_backing` has done so far.
use Rattle.std.proofs.Common.{◌≡◌, ◌++◌, [], map, take}
use Rattle.acyc_edges.specs.Encoding.{inner_at, rules_of}
use Rattle.acyc_edges.specs.private.Written.{backing_rule}
use Rattle.acyc_edges.proofs.named.push_backing.Given as goal
use Rattle.components.specs.Divided.{part_of}

abbrev pub invariant-loop-index : goal.invariant-loop-index
invariant-loop-index l =
    l.rules ≡ l.initial.rules
    ++ map (backing_rule l.writer.numbers.now (inner_at l.writer.setting.now.program (part_of l.writer.setting.now.parts) []) l.atom)
    (take l.index-index (rules_of l.writer.setting.now.program (part_of l.writer.setting.now.parts) [] l.atom))
