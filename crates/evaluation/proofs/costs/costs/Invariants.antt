use Rattle.std.proofs.Common.{◌≡◌, take}
use Rattle.ground_program.specs.Stable.{costs_of}
use Rattle.evaluation.proofs.costs.costs.Given as goal

abbrev pub invariant-loop-level : goal.invariant-loop-level
invariant-loop-level g l = l.costs.items ≡ costs_of (take l.level-index l.levels) (g.I.Interpretation.truth l.truth)
