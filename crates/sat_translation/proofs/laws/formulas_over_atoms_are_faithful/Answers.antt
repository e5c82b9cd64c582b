use Rattle.sat_translation.proofs.InputMapLaws.{over_atoms-faithful}
use Rattle.sat_translation.proofs.laws.formulas_over_atoms_are_faithful.Goals as goal

pub returns : goal.returns
returns c = over_atoms-faithful
