-- The laws of how blocks grow.
use Rattle.rule_network.proofs.GrowthLaws.{cell-grew, cell-value, value-kept, Grew-trans}
use Rattle.rule_network.proofs.laws.new_atom_holds_where_a_body_does.Goals as goal

pub returns-clause-grew : goal.returns-clause-grew
returns-clause-grew c = cell-grew

pub returns-clause-holds : goal.returns-clause-holds
returns-clause-holds c = cell-value

pub returns-clause-kept : goal.returns-clause-kept
returns-clause-kept c = value-kept

pub returns-clause-joined : goal.returns-clause-joined
returns-clause-joined c = Grew-trans
