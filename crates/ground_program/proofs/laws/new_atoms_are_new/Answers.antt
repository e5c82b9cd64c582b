use Rattle.ground_program.proofs.FreshLaws.{new_atom-least, new_atom-rise, new_atom-new, new_atom-most}
use Rattle.ground_program.proofs.laws.new_atoms_are_new.Goals as goal

pub returns-clause-least : goal.returns-clause-least
returns-clause-least c = new_atom-least

pub returns-clause-rise : goal.returns-clause-rise
returns-clause-rise c = new_atom-rise

pub returns-clause-new : goal.returns-clause-new
returns-clause-new c = new_atom-new

pub returns-clause-most : goal.returns-clause-most
returns-clause-most c = new_atom-most
