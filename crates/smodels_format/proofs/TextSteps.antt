-- Written lines of a part add what their entries say.
use Rattle.std.proofs.Common.{◌≡◌, ap, ℕ, suc, List, ◌∷◌, ◌++◌, Result, Ok, Err, codes}
use Rattle.asp_base.specs.Faults.{Fault, fault}
use Rattle.asp_scan.specs.Lines.{Line, pieces_of, numbered}
use Rattle.asp_scan.specs.Words.{spaced, line_of, IsLine, IsWord}
use Rattle.ground_program.specs.Draft.{Draft}
use Rattle.ground_program.specs.declared.reading.ReadKind.{ReadKind}
use Rattle.statement_fields.specs.FieldWords.{spaced_before}
use Rattle.statement_fields.proofs.LineSteps.{Adding, read_from, line-adding}
use Rattle.smodels_format.specs.Read.{Entry, Adds, Ends, Stage, part}
use Rattle.smodels_format.specs.Written.{word_line}

module _ (entry : Draft → List ℕ → Result Entry ReadKind) where
  abbrev behind_entry : Stage → ℕ → ℕ → List Line → Draft → Result Entry ReadKind → Result Draft (Fault ReadKind)
  behind_entry next last n lines draft read = elim read as (λ x. Result Draft (Fault ReadKind)) [
    | Err kind ↦ fault n kind
    | Ok Ends ↦ next draft lines
    | Ok (Adds more) ↦ part entry next last more lines
  ]

  -- a line with its end adds this in each part that has such entries
  abbrev pub EntryAdds : List ℕ → (Draft → Draft) → Type 0
  EntryAdds line step = (next : Stage) (last : ℕ) → Adding (part entry next last) line step

  pub entry-adds : (first : List ℕ) (words : List (List ℕ)) (step : Draft → Draft) → IsWord first → IsLine (spaced (first ∷ words))
      → ((draft : Draft) → entry draft (first ++ spaced_before words) ≡ Ok (Adds (step draft))) → EntryAdds (line_of (first ∷ words)) step
  entry-adds first words step word line says next last =
      line-adding (part entry next last) first words step word line (λ n draft lines. ap (behind_entry next last n lines draft) (says draft))

  -- the 0 that ends a part
  pub end-read : (next : Stage) (last n : ℕ) (draft : Draft) (rest : List ℕ) → entry draft (codes "0") ≡ Ok Ends
      → read_from (part entry next last) n draft (word_line (codes "0") ++ rest) ≡ next draft (numbered (suc n) (pieces_of rest))
  end-read next last n draft rest ends = ap (behind_entry next last n (numbered (suc n) (pieces_of rest)) draft) ends
