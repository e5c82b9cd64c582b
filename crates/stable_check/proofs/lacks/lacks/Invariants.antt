use Rattle.std.proofs.Common.{◌≡◌, map, take}
use Rattle.asp_base.specs.Sets.{none}
use Rattle.stable_check.specs.private.Lack.{flag, lack}
use Rattle.stable_check.proofs.lacks.lacks.Given as goal

abbrev pub invariant-loop-rule : goal.invariant-loop-rule
invariant-loop-rule l = l.lacks.items ≡ map (lack none (flag l.atoms l.set)) (take l.rule-index l.rules)
