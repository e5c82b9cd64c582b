-- What the loop of `all_atoms` has done so far.
use Rattle.std.proofs.Common.{◌≡◌, ◌++◌, take, filter, map}
use Rattle.std.specs.List.{AllByRecursion}
use Rattle.ground_program.specs.Facts.{IsAtom}
use Rattle.acyc_edges.specs.Names.{is_new}
use Rattle.acyc_edges.specs.private.Numbers.{number_of}
use Rattle.acyc_edges.proofs.kept.all_atoms.Given as goal

abbrev pub invariant-loop-name : goal.invariant-loop-name
invariant-loop-name l =
    (l.atoms.items ≡ l.program.atoms ++ map (number_of l.numbers) (filter is_new (take l.name-index l.names)))
    × AllByRecursion IsAtom l.atoms.items
