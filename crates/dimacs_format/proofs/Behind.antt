-- What follows the clauses: the rest of their line, and the lines behind it.
use Rattle.std.proofs.Common.{◌≡◌, refl, ◌∙◌, ap, List, ℕ, [], ◌∷◌, ◌++◌, None, Ok}
use Rattle.asp_scan.specs.Lines.{Line}
use Rattle.asp_scan.specs.Scanning.{Scanning}
use Rattle.asp_scan.specs.Tokens.{token_at, tokens}
use Rattle.dimacs_format.specs.Read.{Item, content_of, words_at, items_of, begun, whole_lines}
use Rattle.dimacs_format.specs.private.Walks.{items_left}
use Rattle.dimacs_format.proofs.Left.{items_left-none}

-- the lines that begin in the items of lines are these lines
begun-words : (n : ℕ) (texts : List (List ℕ)) (items : List Item) → begun (words_at n texts ++ items) ≡ begun items
begun-words n [] items = refl
begun-words n (text ∷ texts) items = begun-words n texts items

begun-lines : (lines : List Line) → begun (items_of lines) ≡ lines
begun-lines [] = refl
begun-lines (line ∷ lines) = ap (λ (ls : List Line). line ∷ ls) (begun-words line.number (tokens line.bytes) (items_of lines) ∙ begun-lines lines)

pub whole-lines : (lines : List Line) → whole_lines (items_of lines) ≡ Ok lines
whole-lines [] = refl
whole-lines (line ∷ lines) = ap (λ (ls : List Line). Ok (line ∷ ls)) (begun-words line.number (tokens line.bytes) (items_of lines) ∙ begun-lines lines)

pub whole-left : (s : Scanning) → token_at s.left ≡ None → whole_lines (items_left s) ≡ Ok (content_of s.ahead)
whole-left s e = ap whole_lines (items_left-none s e) ∙ whole-lines (content_of s.ahead)
