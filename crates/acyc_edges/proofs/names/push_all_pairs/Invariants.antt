-- What the loop of `push_all_pairs` has done so far.
use Rattle.std.proofs.Common.{◌≡◌, ◌++◌, map, take}
use Rattle.std.specs.List.{flat_map}
use Rattle.acyc_edges.specs.declared.name.Name.TheVariants.{NoLater}
use Rattle.acyc_edges.proofs.names.push_all_pairs.Given as goal

abbrev pub invariant-loop-atom : goal.invariant-loop-atom
invariant-loop-atom l = l.names.items ≡ l.initial.names.items ++ flat_map (λ a. map (NoLater a) l.others) (take l.atom-index l.atoms)
