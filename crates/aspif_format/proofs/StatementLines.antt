-- The first line of those to come is read as its statement: one that adds to the program, or the end of the text.
use Rattle.std.proofs.Common.{◌≡◌, ◌∙◌, ℕ, List, ◌∷◌, ◌++◌, Result, Ok, Err, sym, ap}
use Rattle.asp_base.specs.Faults.{Fault, fault}
use Rattle.asp_scan.specs.Lines.{Line}
use Rattle.asp_scan.specs.Words.{spaced, line_of, IsLine, IsWord}
use Rattle.ground_program.specs.Draft.{Draft}
use Rattle.ground_program.specs.declared.reading.ReadKind.{ReadKind}
use Rattle.statement_fields.specs.FieldWords.{spaced_before}
use Rattle.statement_fields.proofs.LineSteps.{Adding, line-adding}
use Rattle.aspif_format.specs.Read.{Statement, Adds, Ends, statement, statements}
use Rattle.statement_fields.specs.Parts.{ended_text}

abbrev behind_statement : ℕ → ℕ → List Line → Draft → Result Statement ReadKind → Result Draft (Fault ReadKind)
behind_statement last n lines draft said = elim said as (λ x. Result Draft (Fault ReadKind)) [
  | Err kind ↦ fault n kind
  | Ok Ends ↦ ended_text draft lines
  | Ok (Adds more) ↦ statements last more lines
]

pub statements-end : (last : ℕ) (draft : Draft) (line : Line) (ahead lines : List Line) (left : List ℕ) → ahead ≡ line ∷ lines → left ≡ line.bytes
    → statement draft left ≡ Ok Ends → statements last draft ahead ≡ ended_text draft lines
statements-end last draft line ahead lines left at is said =
    ap (statements last draft) at ∙ ap (behind_statement last line.number lines draft) (ap (statement draft) (sym is) ∙ said)

-- a line that is read as a statement which adds this
abbrev pub Says : List ℕ → List (List ℕ) → (Draft → Draft) → Type 0
Says first words step = (draft : Draft) → statement draft (first ++ spaced_before words) ≡ Ok (Adds (step draft))

-- such a line, written in front of other text
pub says-adding : (last : ℕ) (first : List ℕ) (words : List (List ℕ)) (step : Draft → Draft) → IsWord first → IsLine (spaced (first ∷ words)) → Says first words step
    → Adding (statements last) (line_of (first ∷ words)) step
says-adding last first words step word line says =
    line-adding (statements last) first words step word line (λ n draft lines. ap (behind_statement last n lines draft) (says draft))
