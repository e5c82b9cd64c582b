-- What the loop of `push_fires` has done so far.
use Rattle.std.proofs.Common.{◌≡◌, ◌++◌, map, take}
use Rattle.acyc_edges.specs.declared.name.Name.TheVariants.{Fires}
use Rattle.acyc_edges.proofs.names.push_fires.Given as goal

abbrev pub invariant-loop-index : goal.invariant-loop-index
invariant-loop-index l = l.names.items ≡ l.initial.names.items ++ map Fires (take l.index-index l.indices)
