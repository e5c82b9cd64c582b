use Rattle.std.proofs.Common.{◌≡◌, ◌++◌, drop}
use Rattle.std.specs.List.{flat_map}
use Rattle.ground_program.specs.Occurrences.{atoms_of_head}
use Rattle.ground_program.proofs.gather.push_heads.Given as goal

abbrev pub invariant-loop-rule : goal.invariant-loop-rule
invariant-loop-rule l = l.out.items ++ flat_map (λ rule. atoms_of_head rule.head) (drop l.rule-index l.rules) ≡ l.initial.out.items ++ flat_map (λ rule. atoms_of_head rule.head) l.rules
