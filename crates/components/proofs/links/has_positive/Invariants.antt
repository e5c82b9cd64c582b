-- No body so far has a positive literal.
use Rattle.std.proofs.Common.{◌≡◌, [], drop}
use Rattle.std.specs.List.{AllByRecursion}
use Rattle.ground_program.specs.Dependencies.{positives_of_body}
use Rattle.components.proofs.links.has_positive.Given as goal

abbrev pub invariant-loop-rule : goal.invariant-loop-rule
invariant-loop-rule l = AllByRecursion (λ rule. positives_of_body rule.body ≡ []) (drop l.rule-index l.rules) → AllByRecursion (λ rule. positives_of_body rule.body ≡ []) l.rules
