-- What the loop of `push_self` has done so far.
use Rattle.std.proofs.Common.{◌≡◌, ◌++◌, [], map, take}
use Rattle.acyc_edges.specs.Encoding.{rules_of}
use Rattle.acyc_edges.specs.private.Written.{self_rule}
use Rattle.acyc_edges.proofs.named.push_self.Given as goal
use Rattle.components.specs.Divided.{part_of}

abbrev pub invariant-loop-index : goal.invariant-loop-index
invariant-loop-index l =
    l.rules ≡ l.initial.rules
    ++ map (self_rule l.writer.numbers.now l.atom) (take l.index-index (rules_of l.writer.setting.now.program (part_of l.writer.setting.now.parts) [] l.atom))
