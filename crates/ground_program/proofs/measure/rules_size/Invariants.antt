use Rattle.std.proofs.Common.{◌≡◌, ◌^◌, min, take}
use Rattle.std.specs.List.{sum_by}
use Rattle.ground_program.specs.Size.{rule_size}
use Rattle.ground_program.proofs.measure.rules_size.Given as goal

abbrev pub invariant-loop-rule : goal.invariant-loop-rule
invariant-loop-rule l = l.total ≡ min (sum_by rule_size (take l.rule-index l.rules)) (2 ^ 63)
