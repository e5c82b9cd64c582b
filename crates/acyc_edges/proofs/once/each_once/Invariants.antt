-- What the loop of `each_once` has done so far.
use Rattle.std.proofs.Common.{◌≡◌, take}
use Rattle.acyc_edges.proofs.once.each_once.Given as goal
use Rattle.asp_base.specs.Sets.{once}

abbrev pub invariant-loop-atom : goal.invariant-loop-atom
invariant-loop-atom l = record {
  seen : l.seen.keys ≡ once (take l.atom-index l.atoms);
  list : l.list.items ≡ once (take l.atom-index l.atoms);
}
