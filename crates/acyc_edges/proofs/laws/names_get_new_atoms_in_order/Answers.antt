-- What is left to show of `names_get_new_atoms_in_order`.
use Rattle.acyc_edges.proofs.NameOrder.{plain-order, unique-order}
use Rattle.acyc_edges.proofs.laws.names_get_new_atoms_in_order.Goals as goal

pub returns-clause-plain : goal.returns-clause-plain
returns-clause-plain c P part parts program normal rise = plain-order P program normal part parts rise

pub returns-clause-unique : goal.returns-clause-unique
returns-clause-unique c P part parts program normal rise = unique-order P program normal part parts rise
