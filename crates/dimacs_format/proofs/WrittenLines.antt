-- The lines of edges and of weighted clauses, piece by piece.
use Rattle.std.proofs.Common.{◌≡◌, ◌∙◌, sym, ap, ℕ, List, [], ◌∷◌, ◌++◌, append_assoc, decimal, codes}
use Rattle.asp_scan.specs.Words.{spaced, line_of}
use Rattle.asp_base.specs.Literal.{Literal}
use Rattle.clause_store.specs.declared.formula.LitEdge.{LitEdge}
use Rattle.dimacs_format.specs.Written.{literal_word, edge_words, clause_words, weighted_words}
use Rattle.dimacs_format.specs.private.EdgeText.{nodes_text}

edge_line : (e : LitEdge) → line_of (edge_words e) ≡ nodes_text e ++ (literal_word e.lit ++ (10 ∷ []))
edge_line e = simp append_assoc

-- what is appended piece by piece
pub edge_pieces : (old nodes lit whole : List ℕ) (e : LitEdge) → nodes ≡ old ++ nodes_text e → lit ≡ nodes ++ literal_word e.lit → whole ≡ lit ++ (10 ∷ []) → whole ≡ old ++ line_of (edge_words e)
edge_pieces old nodes lit whole e first second third =
    third ∙ ap (λ b. b ++ (10 ∷ [])) (second ∙ ap (λ b. b ++ literal_word e.lit) first)
    ∙ ap (λ b. b ++ (10 ∷ [])) (append_assoc old (nodes_text e) (literal_word e.lit)) ∙ append_assoc old (nodes_text e ++ literal_word e.lit) (10 ∷ [])
    ∙ ap (λ b. old ++ b) (append_assoc (nodes_text e) (literal_word e.lit) (10 ∷ []) ∙ sym (edge_line e))

pub weighted_line : (w : ℕ) (lits : List Literal) → line_of (weighted_words w lits) ≡ decimal w ++ (32 ∷ line_of (clause_words lits))
weighted_line w [] = append_assoc (decimal w) (32 ∷ codes "0") (10 ∷ [])
weighted_line w (l ∷ lits) = append_assoc (decimal w) (32 ∷ spaced (clause_words (l ∷ lits))) (10 ∷ [])
