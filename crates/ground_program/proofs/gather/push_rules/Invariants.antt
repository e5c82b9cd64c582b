use Rattle.std.proofs.Common.{◌≡◌, ◌++◌, drop}
use Rattle.std.specs.List.{flat_map}
use Rattle.ground_program.specs.Occurrences.{atoms_of_rule}
use Rattle.ground_program.proofs.gather.push_rules.Given as goal

abbrev pub invariant-loop-rule : goal.invariant-loop-rule
invariant-loop-rule l = l.out.items ++ flat_map atoms_of_rule (drop l.rule-index l.rules) ≡ l.initial.out.items ++ flat_map atoms_of_rule l.rules
