-- What is read behind a name is the same where the blank that ends the name is taken with it.
use Rattle.std.proofs.Common.{◌≡◌, ◌∙◌, ℕ, Bool, true, false, not, List, [], drop, Some, None, Result, Ok, Err, refl, ap}
use Rattle.std.specs.Prelude.{Option, ℤ, pos, int_lt, ◌^◌}
use Rattle.asp_base.specs.Faults.{◌>>=◌}
use Rattle.asp_base.specs.Literal.{Literal}
use Rattle.asp_scan.specs.Tokens.{bytes_from}
use Rattle.asp_scan.specs.Words.{ends_token}
use Rattle.asp_scan.proofs.LineTokens.{first_token, number_in, skip_blanks-drop}
use Rattle.ground_program.specs.declared.reading.ReadKind.{ReadKind}
use Rattle.ground_program.specs.declared.reading.ReadKind.TheVariants as kinds
use Rattle.statement_fields.specs.Fields.{Reading, unless, lifted, natural, literal, many, counted, name_length, name, past_blank}

abbrev count_in : Reading ℤ → Reading ℕ
count_in read = read >>= (λ n. unless (int_lt n.0 (pos 0)) kinds.NegativeCount (unless (int_lt (pos (2 ^ 24)) n.0) kinds.TooManyLiterals (Ok (natural n.0, n.1))))

-- literals behind a blank
counted-drop : (line : List ℕ) → ends_token line ≡ true → counted literal line ≡ counted literal (drop 1 line)
counted-drop line blank =
    ap (λ skipped. count_in (lifted (number_in (first_token skipped))) >>= (λ n. many literal n.0 n.1)) (skip_blanks-drop line blank)

abbrev named : Option (List ℕ × List ℕ) → Reading (List ℕ)
named bytes = elim bytes [ None ↦ Err kinds.Missing | Some found ↦ unless (not (ends_token found.1)) kinds.BadName (Ok found) ]

abbrev read_of : Reading (List ℕ) → List ℕ × List ℕ
read_of (Ok read) = read
read_of (Err kind) = ([], [])

module _ {B : Type 0} (text left : List ℕ) (then : List ℕ → List Literal × List ℕ → Result B ReadKind) where
  ends-then : (found : List ℕ × List ℕ) (blank : Bool) → ends_token found.1 ≡ blank → past_blank (unless (not blank) kinds.BadName (Ok found)) ≡ Ok (text, left)
      → (unless (not blank) kinds.BadName (Ok found) >>= (λ read. counted literal read.1 >>= then read.0)) ≡ (counted literal left >>= then text)
  ends-then found true is e =
      ap (λ lits. lits >>= then found.0) (counted-drop found.1 is)
      ∙ ap (λ (read : List ℕ × List ℕ). counted literal read.1 >>= then read.0) (ap read_of e)
  ends-then found false is e = cc

  named-then : (bytes : Option (List ℕ × List ℕ)) → past_blank (named bytes) ≡ Ok (text, left)
      → (named bytes >>= (λ read. counted literal read.1 >>= then read.0)) ≡ (counted literal left >>= then text)
  named-then None e = cc
  named-then (Some found) e = ends-then found (ends_token found.1) refl e

  length-then : (length : Reading ℕ) → past_blank (length >>= (λ n. named (bytes_from n.0 n.1))) ≡ Ok (text, left)
      → ((length >>= (λ n. named (bytes_from n.0 n.1))) >>= (λ read. counted literal read.1 >>= then read.0)) ≡ (counted literal left >>= then text)
  length-then (Ok n) e = named-then (bytes_from n.0 n.1) e
  length-then (Err kind) e = cc

  -- a name, and literals behind it
  pub name-then : (line : List ℕ) → past_blank (name line) ≡ Ok (text, left)
      → (name line >>= (λ read. counted literal read.1 >>= then read.0)) ≡ (counted literal left >>= then text)
  name-then line e = length-then (name_length line) e
