use Rattle.sat_translation.proofs.InputMapLaws.{completion-faithful}
use Rattle.sat_translation.proofs.laws.completion_and_map_are_faithful.Goals as goal

pub returns : goal.returns
returns c = completion-faithful
