-- The laws of what a block derives.
use Rattle.rule_network.proofs.OutsideLaws.{closure-begins, closure-outside, closure-made}
use Rattle.rule_network.proofs.laws.closure_is_what_rules_derive.Goals as goal

pub returns-clause-begins : goal.returns-clause-begins
returns-clause-begins c = closure-begins

pub returns-clause-outside : goal.returns-clause-outside
returns-clause-outside c = closure-outside

pub returns-clause-made : goal.returns-clause-made
returns-clause-made c = closure-made
