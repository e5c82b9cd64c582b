-- Entries that begin with an atom.
use Rattle.std.proofs.Common.{◌≡◌, ◌∙◌, ℕ, List, Some, Result, ap}
use Rattle.std.specs.Prelude.{Option}
use Rattle.ground_program.specs.Draft.{Draft}
use Rattle.ground_program.specs.declared.reading.ReadKind.{ReadKind}
use Rattle.statement_fields.specs.Fields.{Faults}
use Rattle.asp_base.specs.declared.faults.LineFault.{LineFault}
use Rattle.asp_base.specs.declared.faults.LineFault.TheVariants as faults
use Rattle.smodels_format.specs.Read.{Entry, adds}
use Rattle.smodels_format.specs.private.Steps.{begun}

-- what is behind the atom fails
pub entry-fails : (read : Result Entry ReadKind) (first : Option ℕ) (a : ℕ) (rest : List ℕ) (entry : ℕ × List ℕ → Result Draft ReadKind) (fault : LineFault ReadKind)
    → read ≡ begun first rest entry → first ≡ Some a → Faults (entry (a, rest)) fault → Faults read fault
entry-fails read first a rest entry (faults.Kind kind) is begins h = is ∙ ap (λ f. begun f rest entry) begins ∙ ap adds h
entry-fails read first a rest entry faults.Memory is begins h = tt
