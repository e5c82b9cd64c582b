-- Rising atoms are the atoms of a program.
use Rattle.std.proofs.Common.{sym, subst}
use Rattle.ground_program.specs.private.AreAtoms.{AreAtoms}
use Rattle.ground_program.proofs.AtomsLaws.{rising-atoms}
use Rattle.ground_program.proofs.atoms.Atoms.of_vec.Goals as goal

pub invariant_of-result : goal.invariant_of-result
invariant_of-result c = subst AreAtoms (sym c.in_ok-of_vec.ensures) (rising-atoms c.args.atoms.items c.requires)
