-- What the loop of `push_pairs` has done so far.
use Rattle.std.proofs.Common.{◌≡◌, ◌++◌, map, take}
use Rattle.acyc_edges.specs.declared.name.Name.TheVariants.{NoLater}
use Rattle.acyc_edges.proofs.names.push_pairs.Given as goal

abbrev pub invariant-loop-other : goal.invariant-loop-other
invariant-loop-other l = l.names.items ≡ l.initial.names.items ++ map (NoLater l.atom) (take l.other-index l.others)
