use Rattle.asp_base.specs.Literal.{atom_of}
use Rattle.ground_program.specs.Facts.{FitsWeight}
use Rattle.statement_fields.proofs.SoFar.{SoFar}
use Rattle.symbol_map.specs.IsMap.{IsVariable}
use Rattle.symbol_map.specs.Read.{item_over}
use Rattle.symbol_map.proofs.fields.many_items.Given as goal

abbrev pub invariant-loop-i : goal.invariant-loop-i
invariant-loop-i l = SoFar (item_over l.vars) (λ item. IsVariable l.vars (atom_of item.0) × FitsWeight item.1) l.n l._i l.initial.scan l.scan l.items
