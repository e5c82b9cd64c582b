-- What the loop of `push_backs` has done so far.
use Rattle.std.proofs.Common.{◌≡◌, ◌++◌, map, take}
use Rattle.acyc_edges.specs.declared.name.Name.TheVariants.{Backs}
use Rattle.acyc_edges.proofs.names.push_backs.Given as goal

abbrev pub invariant-loop-index : goal.invariant-loop-index
invariant-loop-index l = l.names.items ≡ l.initial.names.items ++ map Backs (take l.index-index l.indices)
