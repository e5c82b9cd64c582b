-- The status that words say, along the walk over a line.
use Rattle.std.proofs.Common.{◌≡◌, refl, sym, ◌∙◌, ap, ℕ, Bool, List, [], ◌∷◌, Option, Some, None, IsSome}
use Rattle.asp_scan.specs.Tokens.{token_at, tokens}
use Rattle.back_map.specs.Read.{status_of}
use Rattle.back_map.specs.declared.answer.Status.{Status}
use Rattle.asp_scan.proofs.LineTokens.{tokens-some, tokens-none}

pub one-word : (first line : List ℕ) (result : Option (Status × Bool)) → token_at line ≡ None → result ≡ status_of (first ∷ []) → result ≡ status_of (first ∷ tokens line)
one-word first line result none is = is ∙ ap (λ ts. status_of (first ∷ ts)) (sym (tokens-none line none))

pub two-words : (first line second rest : List ℕ) (result : Option (Status × Bool)) → token_at line ≡ Some (second, rest) → token_at rest ≡ None → result ≡ status_of (first ∷ second ∷ [])
    → result ≡ status_of (first ∷ tokens line)
two-words first line second rest result some none is =
    is ∙ ap (λ ts. status_of (first ∷ ts)) (sym (tokens-some line (second, rest) some ∙ ap (λ ts. second ∷ ts) (tokens-none rest none)))

pub three-words : (first line second rest third left : List ℕ) (result : Option (Status × Bool)) → token_at line ≡ Some (second, rest) → token_at rest ≡ Some (third, left) → token_at left ≡ None
    → result ≡ status_of (first ∷ second ∷ third ∷ []) → result ≡ status_of (first ∷ tokens line)
three-words first line second rest third left result some next none is =
    is ∙ ap (λ ts. status_of (first ∷ ts))
    (sym (tokens-some line (second, rest) some ∙ ap (λ ts. second ∷ ts) (tokens-some rest (third, left) next ∙ ap (λ ts. third ∷ ts) (tokens-none left none))))

pub more-words : (first line second rest third left : List ℕ) → token_at line ≡ Some (second, rest) → token_at rest ≡ Some (third, left) → IsSome (token_at left) → status_of (first ∷ tokens line) ≡ None
more-words first line second rest third left some next more = by (token_at left) refl more
  where
    by : (o : Option (List ℕ × List ℕ)) → token_at left ≡ o → IsSome o → status_of (first ∷ tokens line) ≡ None
    by None t h = absurd (cc)
    by (Some token) t h =
        ap (λ ts. status_of (first ∷ ts))
        (tokens-some line (second, rest) some ∙ ap (λ ts. second ∷ ts) (tokens-some rest (third, left) next ∙ ap (λ ts. third ∷ ts) (tokens-some left token t)))
