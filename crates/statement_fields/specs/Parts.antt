-- What the texts of programs have alike beyond fields: heads of at most one atom, and the end of a
-- text.
use Rattle.std.specs.Prelude.{ℕ, zero, suc, List, [], ◌∷◌, Result, Ok, Err}
use Rattle.asp_base.specs.Faults.{◌>>=◌, Fault, fault}
use Rattle.asp_scan.specs.Lines.{Line}
use Rattle.ground_program.specs.Draft.{Draft}
use Rattle.ground_program.specs.declared.program.Head.{Head}
use Rattle.ground_program.specs.declared.program.Head.TheVariants.{Nothing, One}
use Rattle.ground_program.specs.declared.reading.ReadKind.{ReadKind}
use Rattle.ground_program.specs.declared.reading.ReadKind.TheVariants as kinds
use Rattle.statement_fields.specs.Fields.{Reading, atom}

-- no atom or one; two and more are refused at their number
abbrev pub plain_head : ℕ → List ℕ → Reading Head
plain_head zero line = Ok (Nothing, line)
plain_head (suc zero) line = do
  a ← atom line
  Ok (One a.0, a.1)
plain_head (suc (suc n)) line = Err kinds.Disjunction

-- behind the end of a text there are blank lines only
abbrev pub ended_text : Draft → List Line → Result Draft (Fault ReadKind)
ended_text draft [] = Ok draft
ended_text draft (line ∷ lines) = fault line.number kinds.TrailingText
