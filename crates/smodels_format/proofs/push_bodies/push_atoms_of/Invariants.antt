-- The atoms of the literals so far are written.
use Rattle.std.proofs.Common.{◌≡◌, ◌++◌, take}
use Rattle.std.specs.List.{flat_map}
use Rattle.smodels_format.specs.private.Writing.{atom_piece}
use Rattle.smodels_format.proofs.push_bodies.push_atoms_of.Given as goal

abbrev pub invariant-loop-lit : goal.invariant-loop-lit
invariant-loop-lit l = l.out.items ≡ l.fn.out.items ++ flat_map (λ lit. atom_piece l.sign lit) (take l.lit-index l.lits)
