-- There are at most 2^30 atoms.
use Rattle.ground_program.proofs.AtomsLaws.{atoms-few}
use Rattle.ground_program.proofs.program.Program.known.Goals as goal

pub returns-clause-few : goal.returns-clause-few
returns-clause-few c =
    rw (← c.self.view_is) (atoms-few _ (record { rise = c.self.invariant.atoms_rise; fit = c.self.invariant.atoms_fit }))
