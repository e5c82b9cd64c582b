use Rattle.ground_program.specs.Facts.{IsAtom}
use Rattle.statement_fields.specs.Fields.{atom}
use Rattle.statement_fields.proofs.SoFar.{SoFar}
use Rattle.statement_fields.proofs.lists.many_atoms.Given as goal

abbrev pub invariant-loop-i : goal.invariant-loop-i
invariant-loop-i l = SoFar atom IsAtom l.n l._i l.initial.scan l.scan l.atoms
