-- The atoms so far, with those that are left, are all of them, and there is a number for each.
use Rattle.std.proofs.Common.{◌≡◌, ◌+◌, ◌≤◌, ◌^◌, ◌++◌, drop, length}
use Rattle.ground_program.specs.Fresh.{new_atom}
use Rattle.smodels_format.specs.private.Writing.{symbol_atoms}
use Rattle.smodels_format.proofs.push_shows.symbol_atoms.Given as goal

abbrev pub invariant-loop-show : goal.invariant-loop-show
invariant-loop-show l = record {
  atoms : l.atoms.atoms ≡ l.fn.atoms.atoms;
  few : length l.fn.atoms.atoms + l.atoms.drawn + length l.shows ≤ 2 ^ 30 + l.show-index;
  rest : l.symbols.items ++ symbol_atoms (new_atom l.fn.atoms.atoms) l.atoms.drawn (drop l.show-index l.shows)
      ≡ symbol_atoms (new_atom l.fn.atoms.atoms) l.fn.atoms.drawn l.shows;
}
