-- The rules so far are normal.
use Rattle.std.proofs.Common.{drop}
use Rattle.ground_program.specs.Normal.{AreNormal}
use Rattle.normalize.proofs.given.are_normal.Given as goal

abbrev pub invariant-loop-rule : goal.invariant-loop-rule
invariant-loop-rule l = AreNormal (drop l.rule-index l.rules) → AreNormal l.rules
