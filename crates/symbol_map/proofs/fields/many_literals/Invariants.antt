use Rattle.asp_base.specs.Literal.{atom_of}
use Rattle.statement_fields.proofs.SoFar.{SoFar}
use Rattle.symbol_map.specs.IsMap.{IsVariable}
use Rattle.symbol_map.specs.Read.{over}
use Rattle.symbol_map.proofs.fields.many_literals.Given as goal

abbrev pub invariant-loop-i : goal.invariant-loop-i
invariant-loop-i l = SoFar (over l.vars) (λ lit. IsVariable l.vars (atom_of lit)) l.n l._i l.initial.scan l.scan l.lits
