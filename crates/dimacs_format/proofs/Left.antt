-- What a walk has still to come to, and what is skipped up to the next token.
use Rattle.std.proofs.Common.{◌≡◌, refl, ap, ℕ, List, [], ◌∷◌, ◌++◌, Some, None}
use Rattle.asp_scan.specs.Scanning.{Scanning}
use Rattle.asp_scan.specs.Tokens.{token_at}
use Rattle.asp_scan.proofs.LineTokens.{tokens-some, tokens-none}
use Rattle.asp_base.specs.Faults.{fault}
use Rattle.dimacs_format.specs.Read.{Item, Front, Word, Token, content_of, words_at, items_of, clause, next_clause, weight}
use Rattle.dimacs_format.specs.private.Walks.{items_left, skipped}
use Rattle.dimacs_format.specs.declared.kind.FormulaKind.TheVariants.{WrongCount}

pub items_left-some : (s : Scanning) (token : List ℕ × List ℕ) → token_at s.left ≡ Some token → items_left s ≡ Word (record { line = s.line.number; text = token.0 }) ∷ items_left (record s { left = token.1 })
items_left-some s token e = ap (λ ts. words_at s.line.number ts ++ items_of (content_of s.ahead)) (tokens-some s.left token e)

pub items_left-none : (s : Scanning) → token_at s.left ≡ None → items_left s ≡ items_of (content_of s.ahead)
items_left-none s e = ap (λ ts. words_at s.line.number ts ++ items_of (content_of s.ahead)) (tokens-none s.left e)

-- ---- fronts of lines say nothing to what is read of a stream

pub clause-skipped : (last vars : ℕ) (items : List Item) → clause last vars (skipped items) ≡ clause last vars items
clause-skipped last vars [] = refl
clause-skipped last vars (Front line ∷ items) = clause-skipped last vars items
clause-skipped last vars (Word token ∷ items) = refl

pub weight-skipped : (last : ℕ) (items : List Item) → weight last (skipped items) ≡ weight last items
weight-skipped last [] = refl
weight-skipped last (Front line ∷ items) = weight-skipped last items
weight-skipped last (Word token ∷ items) = refl

pub next-found : (last vars : ℕ) (items : List Item) (token : Token) (rest : List Item) → skipped items ≡ Word token ∷ rest → next_clause last vars items ≡ clause last vars (Word token ∷ rest)
next-found last vars [] token rest e = absurd (cc)
next-found last vars (Front line ∷ items) token rest e = next-found last vars items token rest e
next-found last vars (Word first ∷ items) token rest e = ap (clause last vars) e

pub next-none : (last vars : ℕ) (items : List Item) → skipped items ≡ [] → next_clause last vars items ≡ fault last WrongCount
next-none last vars [] e = refl
next-none last vars (Front line ∷ items) e = next-none last vars items e
next-none last vars (Word first ∷ items) e = absurd (cc)
