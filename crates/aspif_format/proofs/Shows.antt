-- Shows, with the blank behind their name taken.
use Rattle.std.proofs.Common.{◌≡◌, ◌∙◌, ℕ, List, Some, None, IsSome, Result, Ok, Err, refl, ap}
use Rattle.std.specs.Prelude.{Option}
use Rattle.asp_scan.specs.Tokens.{token_at}
use Rattle.asp_base.specs.Literal.{Literal}
use Rattle.ground_program.specs.Draft.{Draft, with_show}
use Rattle.ground_program.specs.declared.reading.ReadKind.{ReadKind}
use Rattle.ground_program.specs.declared.reading.ReadKind.TheVariants as kinds
use Rattle.asp_base.specs.Faults.{◌>>=◌}
use Rattle.statement_fields.specs.Fields.{counted, literal, name, past_blank, ended, Faults}
use Rattle.asp_base.specs.declared.faults.LineFault.{LineFault}
use Rattle.asp_base.specs.declared.faults.LineFault.TheVariants as faults
use Rattle.statement_fields.proofs.PastBlank.{name-then}
use Rattle.aspif_format.specs.Read.{show}

abbrev ended_at : Draft → Option (List ℕ × List ℕ) → Result Draft ReadKind
ended_at draft token = elim token [ None ↦ Ok draft | Some token ↦ Err kinds.TrailingText ]

trails : (draft : Draft) (token : Option (List ℕ × List ℕ)) → IsSome token → ended_at draft token ≡ Err kinds.TrailingText
trails draft None some = cc
trails draft (Some token) some = refl

abbrev condition_of : Draft → List ℕ → List Literal × List ℕ → Result Draft ReadKind
condition_of draft text condition = ended (with_show (record { name = text; condition = condition.0 }) draft) condition.1

module _ (draft : Draft) (line text left : List ℕ) (named : past_blank (name line) ≡ Ok (text, left)) where
  show-named : show draft line ≡ (counted literal left >>= condition_of draft text)
  show-named = name-then text left (condition_of draft) line named

  pub show-fails : (fault : LineFault ReadKind) → Faults (counted literal left) fault → Faults (show draft line) fault
  show-fails (faults.Kind kind) h = show-named ∙ ap (λ r. r >>= condition_of draft text) h
  show-fails faults.Memory h = tt

  pub show-trails : (lits : List Literal) (rest : List ℕ) → counted literal left ≡ Ok (lits, rest) → IsSome (token_at rest) → show draft line ≡ Err kinds.TrailingText
  show-trails lits rest h some =
      show-named ∙ ap (λ r. r >>= condition_of draft text) h ∙ trails (with_show (record { name = text; condition = lits }) draft) (token_at rest) some

  pub show-is : (lits : List Literal) (rest : List ℕ) → counted literal left ≡ Ok (lits, rest) → token_at rest ≡ None
      → show draft line ≡ Ok (with_show (record { name = text; condition = lits }) draft)
  show-is lits rest h none =
      show-named ∙ ap (λ r. r >>= condition_of draft text) h ∙ ap (ended_at (with_show (record { name = text; condition = lits }) draft)) none
