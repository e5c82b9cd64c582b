-- No literal so far is positive.
use Rattle.std.proofs.Common.{◌≡◌, drop}
use Rattle.ground_program.specs.Dependencies.{positives_of_literals}
use Rattle.components.proofs.links.is_any_positive.Given as goal

abbrev pub invariant-loop-literal : goal.invariant-loop-literal
invariant-loop-literal l = positives_of_literals (drop l.literal-index l.lits) ≡ positives_of_literals l.lits
