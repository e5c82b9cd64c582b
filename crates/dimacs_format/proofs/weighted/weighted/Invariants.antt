-- The parts so far stand in front of the clauses that are still to be read.
use Rattle.dimacs_format.proofs.WeightSteps.{PartsSoFar}
use Rattle.dimacs_format.proofs.weighted.weighted.Given as goal

abbrev pub invariant-loop-i : goal.invariant-loop-i
invariant-loop-i l = PartsSoFar l.vars l.top l.n l._i l.initial.scan l.scan l.parts.hard l.parts.soft
