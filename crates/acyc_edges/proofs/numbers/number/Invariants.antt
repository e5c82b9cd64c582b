-- What the loop of `number` has done so far.
use Rattle.std.proofs.Common.{◌≡◌, take, map}
use Rattle.std.specs.List.{filter}
use Rattle.acyc_edges.specs.Names.{is_new, atom_of_name}
use Rattle.acyc_edges.proofs.numbers.number.Given as goal

abbrev pub invariant-loop-name : goal.invariant-loop-name
invariant-loop-name l = record {
  numbers : l.numbers ≡ map (λ n. (n, atom_of_name l.program.atoms l.names n)) (filter is_new (take l.name-index l.names));
  fresh : l.fresh ≡ record { atoms = l.program.atoms; given = map (atom_of_name l.program.atoms l.names) (filter is_new (take l.name-index l.names)) };
}
