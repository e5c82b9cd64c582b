-- The clauses so far stand in front of those that are still to be read.
use Rattle.dimacs_format.proofs.ClauseSteps.{ClausesSoFar}
use Rattle.dimacs_format.proofs.clauses.clauses.Given as goal

abbrev pub invariant-loop-i : goal.invariant-loop-i
invariant-loop-i l = ClausesSoFar l.vars l.n l._i l.initial.scan l.scan l.hard
