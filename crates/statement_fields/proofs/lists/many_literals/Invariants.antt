use Rattle.asp_base.specs.Literal.{atom_of}
use Rattle.ground_program.specs.Facts.{IsAtom}
use Rattle.statement_fields.specs.Fields.{literal}
use Rattle.statement_fields.proofs.SoFar.{SoFar}
use Rattle.statement_fields.proofs.lists.many_literals.Given as goal

abbrev pub invariant-loop-i : goal.invariant-loop-i
invariant-loop-i l = SoFar literal (λ lit. IsAtom (atom_of lit)) l.n l._i l.initial.scan l.scan l.lits
