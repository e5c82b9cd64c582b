use Rattle.stable_check.specs.private.Lack.{flag}
use Rattle.stable_check.specs.private.UnderWay.{IsUnderWay}
use Rattle.stable_check.proofs.GrowthLaws.{work}
use Rattle.stable_check.proofs.growth.Growth.run.Given as goal

abbrev pub invariant-loop-rule : goal.invariant-loop-rule
invariant-loop-rule l = IsUnderWay l.atoms l.rules (flag l.atoms l.set) (λ r. ⊥) l.self

abbrev pub decreases-loop-rule : goal.decreases-loop-rule
decreases-loop-rule l = work l.self
