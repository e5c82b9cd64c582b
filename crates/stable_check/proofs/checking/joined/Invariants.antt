use Rattle.std.proofs.Common.{◌≡◌, ◌++◌, drop}
use Rattle.asp_base.specs.Sets.{members}
use Rattle.stable_check.specs.private.Parts.{pairs}
use Rattle.stable_check.proofs.checking.joined.Given as goal

abbrev pub invariant-loop-edge : goal.invariant-loop-edge
invariant-loop-edge l = l.list.items ++ pairs (drop l.edge-index l.edges) (members l.set) ≡ pairs l.edges (members l.set)
