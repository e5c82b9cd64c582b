-- The reader's definition along a walk over the text.
use Rattle.std.specs.Prelude.{ℕ, List, [], ◌∷◌, ◌++◌, Option, Some, None, Ok}
use Rattle.asp_base.specs.Faults.{◌>>=◌}
use Rattle.asp_base.specs.Literal.{Literal}
use Rattle.asp_scan.specs.Scanning.{Scanning}
use Rattle.asp_scan.specs.Tokens.{tokens}
use Rattle.clause_store.specs.declared.formula.SoftClause.{SoftClause}
use Rattle.dimacs_format.specs.Read.{Reading, Item, Front, Word, content_of, words_at, items_of, clause, hard_of, soft_of}

-- what a walk has still to come to
abbrev pub items_left : Scanning → List Item
items_left s = words_at s.line.number (tokens s.left) ++ items_of (content_of s.ahead)

-- from the next token on
abbrev pub skipped : List Item → List Item
skipped [] = []
skipped (Front line ∷ items) = skipped items
skipped (Word token ∷ items) = Word token ∷ items

-- with these in front of what is read
abbrev pub onto : {A B : Type 0} → List A → Reading (List A × B) → Reading (List A × B)
onto front read = do
  rest ← read
  Ok (front ++ rest.0, rest.1)

-- the clause whose next number is this literal's, or whose end was read
abbrev pub clause_from : ℕ → ℕ → Option Literal → List Item → Reading (List Literal × List Item)
clause_from last vars None items = Ok ([], items)
clause_from last vars (Some l) items = onto (l ∷ []) (clause last vars items)

-- the hard and the soft clauses that are read, behind these
abbrev pub parts_onto : ℕ → List (List Literal) → List SoftClause
    → Reading (List SoftClause × List Item)
    → Reading (List (List Literal) × List SoftClause × List Item)
parts_onto top hard soft read = do
  rest ← read
  Ok (hard ++ hard_of top rest.0, soft ++ soft_of top rest.0, rest.1)
