-- The line of a clause, literal by literal.
use Rattle.std.proofs.Common.{◌≡◌, refl, ◌∙◌, sym, ap, ℕ, List, [], ◌∷◌, ◌++◌, append_assoc, codes}
use Rattle.std.specs.List.{flat_map}
use Rattle.asp_base.specs.Literal.{Literal}
use Rattle.asp_scan.specs.Words.{line_of}
use Rattle.dimacs_format.specs.Written.{literal_word, clause_words}

-- a literal and the blank behind it
abbrev pub literal_piece : Literal → List ℕ
literal_piece l = literal_word l ++ (32 ∷ [])

pub clause_line_pieces : (lits : List Literal) → line_of (clause_words lits) ≡ flat_map literal_piece lits ++ codes "0\n"
clause_line_pieces [] = refl
clause_line_pieces (l ∷ []) = simp append_assoc
clause_line_pieces (l ∷ k ∷ lits) =
    let rest : line_of (clause_words (k ∷ lits)) ≡ flat_map literal_piece (k ∷ lits) ++ codes "0\n" = clause_line_pieces (k ∷ lits) in
    append_assoc (literal_word l) _ _ ∙ ap (λ bytes. literal_word l ++ (32 ∷ bytes)) rest ∙ sym (ap (λ bytes. bytes ++ codes "0\n") (append_assoc (literal_word l) (32 ∷ []) (flat_map literal_piece (k ∷ lits))) ∙ append_assoc (literal_word l) (32 ∷ flat_map literal_piece (k ∷ lits)) (codes "0\n"))
