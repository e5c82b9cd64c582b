use Rattle.std.proofs.Common.{◌≡◌, map, take}
use Rattle.asp_base.specs.Sets.{members}
use Rattle.stable_check.proofs.checking.flags.Given as goal

abbrev pub invariant-loop-atom : goal.invariant-loop-atom
invariant-loop-atom l = l.flags.items ≡ map (members l.set) (take l.atom-index l.atoms)
