-- There are at most 2^30 atoms.
use Rattle.ground_program.proofs.AtomsLaws.{atoms-few}
use Rattle.ground_program.proofs.atoms.Atoms.len.Goals as goal

pub returns-clause-few : goal.returns-clause-few
returns-clause-few c = rw c.len.ensures (atoms-few _ c.self.invariant)
