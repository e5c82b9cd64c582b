use Rattle.ground_program.specs.Radix.{at_level, total}
use Rattle.ground_program.proofs.rooms.+levels_measure.Given as goal

abbrev pub decreases-levels_measure : goal.decreases-levels_measure
decreases-levels_measure l = total (at_level l.below.bound l.below.base l.items.now)
