-- None of the rules so far has an empty body.
use Rattle.std.proofs.Common.{◌≡◌, drop}
use Rattle.std.specs.List.{list_any}
use Rattle.completion.specs.Completion.{is_empty}
use Rattle.level_ranking.proofs.rules.has_empty_body.Given as goal

abbrev pub invariant-loop-rule : goal.invariant-loop-rule
invariant-loop-rule l = list_any (λ row. is_empty row.body) (drop l.rule-index l.rules) ≡ list_any (λ row. is_empty row.body) l.rules
