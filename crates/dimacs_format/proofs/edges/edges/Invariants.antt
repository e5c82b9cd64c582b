-- The edges so far stand in front of those that are still to be read.
use Rattle.dimacs_format.proofs.EdgeSteps.{EdgesSoFar}
use Rattle.dimacs_format.proofs.edges.edges.Given as goal

abbrev pub invariant-loop-i : goal.invariant-loop-i
invariant-loop-i l = EdgesSoFar l.vars l.n l._i l.initial.scan l.scan l.found
