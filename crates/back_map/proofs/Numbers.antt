-- The numbers of a line, one at a time.
use Rattle.std.proofs.Common.{◌≡◌, sym, ◌∙◌, ap, ℕ, ℤ, List, Some, None, IsSome, Ok, Err}
use Rattle.asp_base.specs.Faults.{◌>>=◌}
use Rattle.asp_scan.specs.Tokens.{token_at, tokens, number_at}
use Rattle.asp_scan.specs.declared.scan.ScanFault.{ScanFault}
use Rattle.asp_scan.proofs.LineTokens.{tokens-some, tokens-none}
use Rattle.asp_scan.proofs.Numerals.{numbered, unnumbered}
use Rattle.back_map.specs.Read.{Heard, with_number, with_numbers}
use Rattle.back_map.specs.declared.answer.AnswerKind.TheVariants as kinds

module _ (n : ℕ) (line : List ℕ) (h : Heard) where
  pub number-next : (rest : List ℕ) (number same : ℤ) → number_at line ≡ Ok (number, rest) → same ≡ number
      → with_numbers n (tokens line) h ≡ (with_number n (Some same) h >>= with_numbers n (tokens rest))
  number-next rest number same e is =
      let read = numbered line number rest e in
      ap (λ ts. with_numbers n ts h) (tokens-some line (read.word, rest) read.at)
      ∙ ap (λ o. with_number n o h >>= with_numbers n (tokens rest)) (read.value ∙ ap (λ z. Some z) (sym is))

  pub number-bad : (fault : ScanFault) → IsSome (token_at line) → number_at line ≡ Err fault → with_numbers n (tokens line) h ≡ Err kinds.BadLine
  number-bad fault some e =
      let read = unnumbered line fault some e in
      ap (λ ts. with_numbers n ts h) (tokens-some line read.token read.at)
      ∙ ap (λ o. with_number n o h >>= with_numbers n (tokens read.token.1)) read.none

  pub no-number : token_at line ≡ None → with_numbers n (tokens line) h ≡ Ok h
  no-number none = ap (λ ts. with_numbers n ts h) (tokens-none line none)
