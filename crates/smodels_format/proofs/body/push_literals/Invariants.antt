-- The literals so far stand behind those that were there.
use Rattle.asp_base.specs.Literal.{atom_of}
use Rattle.ground_program.specs.Facts.{IsAtom}
use Rattle.smodels_format.specs.private.Steps.{signed_atom}
use Rattle.statement_fields.proofs.SoFar.{PushedSoFar}
use Rattle.smodels_format.proofs.body.push_literals.Given as goal

abbrev pub invariant-loop-i : goal.invariant-loop-i
invariant-loop-i l = PushedSoFar (signed_atom l.sign) (λ lit. IsAtom (atom_of lit)) l.n l._i l.initial.scan l.scan l.initial.lits l.lits
