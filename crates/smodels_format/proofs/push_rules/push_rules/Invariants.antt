-- What is written, with the rules that are left, is the text of all; there is a number for each rule that is left.
use Rattle.std.proofs.Common.{◌≡◌, ◌+◌, ◌≤◌, ◌^◌, ◌++◌, drop, take, length}
use Rattle.std.specs.List.{flat_map}
use Rattle.ground_program.specs.Fresh.{new_atom}
use Rattle.smodels_format.specs.Lowering.{after_rules, rules_lowered}
use Rattle.smodels_format.specs.Written.{rule_line}
use Rattle.smodels_format.proofs.push_rules.push_rules.Given as goal

abbrev pub invariant-loop-rule : goal.invariant-loop-rule
invariant-loop-rule l = record {
  atoms : l.atoms.atoms ≡ l.fn.atoms.atoms;
  few : length l.fn.atoms.atoms + l.atoms.drawn + length l.rules ≤ 2 ^ 30 + l.rule-index;
  drawn : after_rules l.atoms.drawn (drop l.rule-index l.rules) ≡ after_rules l.fn.atoms.drawn l.rules;
  text : l.out.items ++ flat_map rule_line (rules_lowered (new_atom l.fn.atoms.atoms) l.refuted l.atoms.drawn (drop l.rule-index l.rules))
      ≡ l.fn.out.items ++ flat_map rule_line (rules_lowered (new_atom l.fn.atoms.atoms) l.refuted l.fn.atoms.drawn l.rules);
  front : take (length l.fn.out.items) l.out.items ≡ l.fn.out.items;
}
