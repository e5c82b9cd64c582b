-- The number that stands next is the one that the next token is.
use Rattle.std.proofs.Common.{◌≡◌, refl, ◌∙◌, ap, ℕ, ℤ, Bool, true, false, cond, List, Option, Some, None, IsSome, Result, Ok, Err}
use Rattle.asp_scan.specs.Tokens.{token_at, integer_of, fits_i64, checked, with_rest, number_of, number_at}
use Rattle.asp_scan.specs.declared.scan.ScanFault.{ScanFault}
use Rattle.asp_scan.specs.declared.scan.ScanFault.TheVariants.{TooWide}
use Rattle.asp_scan.proofs.LineTokens.{number_in, left_of_number}

abbrev fitting : Option ℤ → Option ℤ
fitting o = elim o [ None ↦ None | Some m ↦ cond (fits_i64 m) (Some m) None ]

abbrev value_in : Result (ℤ × List ℕ) ScanFault → Option ℤ
value_in (Ok read) = Some read.0
value_in (Err fault) = None

checked-ok : (o : Option ℤ) (left : List ℕ) (n : ℤ) (rest : List ℕ) → with_rest (checked o) left ≡ Ok (n, rest) → (fitting o ≡ Some n) × (o ≡ Some n) × (left ≡ rest)
checked-ok None left n rest e = absurd (cc)
checked-ok (Some m) left n rest e = by (fits_i64 m) e
  where
    by : (b : Bool) → with_rest (cond b (Ok m) (Err TooWide)) left ≡ Ok (n, rest) → (cond b (Some m) None ≡ Some n) × (Some m ≡ Some n) × (left ≡ rest)
    by true h = (ap value_in h, ap value_in h, ap left_of_number h)
    by false h = absurd (cc)

checked-err : (o : Option ℤ) (left : List ℕ) (fault : ScanFault) → with_rest (checked o) left ≡ Err fault → fitting o ≡ None
checked-err None left fault e = refl
checked-err (Some m) left fault e = by (fits_i64 m) e
  where
    by : (b : Bool) → with_rest (cond b (Ok m) (Err TooWide)) left ≡ Err fault → cond b (Some m) None ≡ None
    by true h = absurd (cc)
    by false h = refl

-- the token of a number, and what follows it
pub record Numbered (line : List ℕ) (n : ℤ) (rest : List ℕ) : Type 0 where
  pub word : List ℕ
  pub at : token_at line ≡ Some (word, rest)
  pub value : number_of word ≡ Some n
  pub numeral : integer_of word ≡ Some n

pub numbered : (line : List ℕ) (n : ℤ) (rest : List ℕ) → number_at line ≡ Ok (n, rest) → Numbered line n rest
numbered line n rest e = by (token_at line) refl e
  where
    by : (o : Option (List ℕ × List ℕ)) → token_at line ≡ o → number_in o ≡ Ok (n, rest) → Numbered line n rest
    by None t h = absurd (cc)
    by (Some token) t h =
        let is = checked-ok (integer_of token.0) token.1 n rest h in
        record { word = token.0; at = t ∙ ap (λ left. Some (token.0, left)) is.2; value = is.0; numeral = is.1 }

-- a token that is no number, or one that does not fit
pub record Unnumbered (line : List ℕ) : Type 0 where
  pub token : List ℕ × List ℕ
  pub at : token_at line ≡ Some token
  pub none : number_of token.0 ≡ None

pub unnumbered : (line : List ℕ) (fault : ScanFault) → IsSome (token_at line) → number_at line ≡ Err fault → Unnumbered line
unnumbered line fault some e = by (token_at line) refl some e
  where
    by : (o : Option (List ℕ × List ℕ)) → token_at line ≡ o → IsSome o → number_in o ≡ Err fault → Unnumbered line
    by None t is h = absurd (cc)
    by (Some token) t is h = record { token = token; at = t; none = checked-err (integer_of token.0) token.1 fault h }
