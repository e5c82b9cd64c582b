-- What is true of the rules that are left is true of all.
use Rattle.std.proofs.Common.{◌≡◌, drop}
use Rattle.std.specs.List.{list_any}
use Rattle.ground_program.specs.Stable.{is_headless}
use Rattle.smodels_format.proofs.writing.any_headless.Given as goal

abbrev pub invariant-loop-rule : goal.invariant-loop-rule
invariant-loop-rule l = list_any (λ rule. is_headless rule.head) (drop l.rule-index l.rules) ≡ list_any (λ rule. is_headless rule.head) l.rules
