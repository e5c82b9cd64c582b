use Rattle.std.proofs.Common.{rules}
use Rattle.std.proofs.lemmas.List.{append_assoc}
use Rattle.ground_program.proofs.builder.ProgramBuilder.named_atoms.Goals as goal

pub returns : goal.returns
returns c = rw (← c.self.view_is) (search (rules, append_assoc))
