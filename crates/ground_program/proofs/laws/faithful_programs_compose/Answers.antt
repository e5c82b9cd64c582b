use Rattle.ground_program.proofs.Compose.{Covers-compose, Faithful-compose}
use Rattle.ground_program.proofs.laws.faithful_programs_compose.Goals as goal

pub returns-clause-covers : goal.returns-clause-covers
returns-clause-covers c = Covers-compose

pub returns-clause-faithful : goal.returns-clause-faithful
returns-clause-faithful c = Faithful-compose
