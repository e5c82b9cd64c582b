-- What the loop of `push_backed` has done so far.
use Rattle.std.proofs.Common.{◌≡◌, ◌++◌, map, take}
use Rattle.acyc_edges.specs.declared.name.Name.TheVariants.{Backed}
use Rattle.acyc_edges.proofs.names.push_backed.Given as goal

abbrev pub invariant-loop-atom : goal.invariant-loop-atom
invariant-loop-atom l = l.names.items ≡ l.initial.names.items ++ map Backed (take l.atom-index l.atoms)
