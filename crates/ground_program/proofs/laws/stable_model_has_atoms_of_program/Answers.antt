use Rattle.ground_program.proofs.FactLaws.{Stable-among}
use Rattle.ground_program.proofs.laws.stable_model_has_atoms_of_program.Goals as goal

pub returns : goal.returns
returns c = Stable-among
