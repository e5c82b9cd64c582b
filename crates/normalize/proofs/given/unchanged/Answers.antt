-- A program of normal rules stands for itself, and is no larger than its room.
use Rattle.normalize.proofs.GivenLaws.{faithful-itself, size-room}
use Rattle.normalize.proofs.given.unchanged.Goals as goal

pub returns-clause-faithful : goal.returns-clause-faithful
returns-clause-faithful c = faithful-itself c.args.program c.known.ensures.facts

pub returns-clause-size : goal.returns-clause-size
returns-clause-size c = size-room c.args.program c.requires
