-- What the loop of `push_all_backs` has done so far.
use Rattle.std.proofs.Common.{◌≡◌, ◌++◌, [], map, take}
use Rattle.std.specs.List.{flat_map}
use Rattle.acyc_edges.specs.Encoding.{rules_of}
use Rattle.acyc_edges.specs.declared.name.Name.TheVariants.{Backs}
use Rattle.acyc_edges.proofs.names.push_all_backs.Given as goal
use Rattle.components.specs.Divided.{part_of}

abbrev pub invariant-loop-atom : goal.invariant-loop-atom
invariant-loop-atom l = l.names.items ≡ l.initial.names.items ++ flat_map (λ a. map Backs (rules_of l.setting.program (part_of l.setting.parts) [] a)) (take l.atom-index l.atoms)
