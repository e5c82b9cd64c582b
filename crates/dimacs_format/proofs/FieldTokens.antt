-- The fields of a line, token by token.
use Rattle.std.proofs.Common.{◌≡◌, refl, sym, ◌∙◌, ap, subst, ℤ, List, ℕ, ◌∷◌, Option, Some, None, IsSome, Ok, Err}
use Rattle.asp_scan.specs.Tokens.{token_at, tokens, number_at, number_of}
use Rattle.asp_scan.specs.declared.scan.ScanFault.{ScanFault}
use Rattle.asp_scan.proofs.LineTokens.{tokens-some, tokens-none}
use Rattle.asp_scan.proofs.Numerals.{Numbered, numbered, Unnumbered, unnumbered}
use Rattle.dimacs_format.specs.Read.{Field, word, numeral}
use Rattle.dimacs_format.specs.declared.kind.FormulaKind.{FormulaKind}

pub word-some : (bad : FormulaKind) (line text rest : List ℕ) → token_at line ≡ Some (text, rest) → word bad (tokens line) ≡ Ok (text, tokens rest)
word-some bad line text rest e = ap (word bad) (tokens-some line (text, rest) e)

after_numeral : (bad : FormulaKind) (text : List ℕ) (texts : List (List ℕ)) (o : Option ℤ) → number_of text ≡ o
    → numeral bad (text ∷ texts) ≡ elim o as (λ x. Field ℤ) [ None ↦ Err bad | Some n ↦ Ok (n, texts) ]
after_numeral bad text texts o e = ap (λ o. elim o as (λ x. Field ℤ) [ None ↦ Err bad | Some n ↦ Ok (n, texts) ]) e

pub numeral-some : (bad : FormulaKind) (line : List ℕ) (n : ℤ) (rest : List ℕ) → number_at line ≡ Ok (n, rest) → (m : ℤ) → m ≡ n → numeral bad (tokens line) ≡ Ok (m, tokens rest)
numeral-some bad line n rest e m same =
    let found : Numbered line n rest = numbered line n rest e in
    ap (numeral bad) (tokens-some line (found.word, rest) found.at) ∙ after_numeral bad found.word (tokens rest) (Some n) found.value ∙ ap (λ k. Ok (k, tokens rest)) (sym same)

pub numeral-none : (bad : FormulaKind) (line : List ℕ) (f : ScanFault) → number_at line ≡ Err f → numeral bad (tokens line) ≡ Err bad
numeral-none bad line f e = by (token_at line) refl
  where
    by : (o : Option (List ℕ × List ℕ)) → token_at line ≡ o → numeral bad (tokens line) ≡ Err bad
    by None t = ap (numeral bad) (tokens-none line t)
    by (Some token) t =
        let found : Unnumbered line = unnumbered line f (subst IsSome (sym t) refl) e in
        ap (numeral bad) (tokens-some line found.token found.at) ∙ after_numeral bad found.token.0 (tokens found.token.1) None found.none
