-- How long the lines of a text are.
use Rattle.std.proofs.Common.{◌≡◌, ◌∙◌, sym, ap, ℕ, zero, suc, ◌+◌, ◌*◌, ◌^◌, ◌<◌, ◌≤◌, ℤ, pos, neg_ℤ, ◌≤ℤ◌, ◌<ℤ◌, IsTrue, List, [], ◌∷◌, ◌++◌, length, decimal, codes, take, slice_get, Some, lit<, subst, arith}
use Rattle.std.specs.Fmt.{signed_decimal}
use Rattle.std.specs.List.{flat_map, AllByRecursion}
use Rattle.std.proofs.lemmas.Int.{ints}
use Rattle.std.proofs.lemmas.List.{length-append, flat_map_more}
use Rattle.std.proofs.lemmas.Option.{get_or_from_slice_get, slice_get_within}
use Rattle.std.proofs.lemmas.Fmt.{length-decimal-le, length-decimal-le_wide, length_signed_le}
use Rattle.asp_base.proofs.Each.{each-get}
use Rattle.asp_base.specs.Literal.{Literal, Pos, Neg}
use Rattle.asp_scan.specs.Words.{line_of}
use Rattle.clause_store.specs.Clauses.{Clauses}
use Rattle.clause_store.specs.Facts.{IsOver}
use Rattle.clause_store.specs.declared.formula.LitEdge.{LitEdge}
use Rattle.clause_store.specs.declared.formula.SoftClause.{SoftClause}
use Rattle.dimacs_format.specs.Read.{is_node, HasNodes}
use Rattle.dimacs_format.specs.Written.{literal_word, clause_words, header_words, clause_lines, ecnf_header_words, edge_words, edge_lines, wcnf_header_words, weighted_words, hard_lines, soft_lines}
use Rattle.asp_scan.proofs.Appends.{take_read}
use Rattle.dimacs_format.proofs.WrittenLines.{weighted_line}
use Rattle.dimacs_format.proofs.ClauseLines.{literal_piece, clause_line_pieces}

word_length : (k n : ℕ) (l : Literal) → 0 < k → n < 10 ^ k → n < 2 ^ 64 → IsOver n l → length (literal_word l) ≤ k + 1
word_length k n (Pos a) s h w o = let short : length (decimal a) ≤ k = length-decimal-le k a s (omega (arith, o.1)) (omega (arith, o.1)) in omega arith
word_length k n (Neg zero) s h w o = let short : length (decimal 0) ≤ k = length-decimal-le k 0 s (omega arith) (omega arith) in omega arith
word_length k n (Neg (suc a)) s h w o = let short : length (decimal (suc a)) ≤ k = length-decimal-le k (suc a) s (omega (arith, o.1)) (omega (arith, o.1)) in omega arith

pieces_length : (k n : ℕ) (lits : List Literal) → 0 < k → n < 10 ^ k → n < 2 ^ 64 → AllByRecursion (IsOver n) lits → length (flat_map literal_piece lits) ≤ length lits * (k + 2)
pieces_length k n [] s h w o = omega arith
pieces_length k n (l ∷ lits) s h w o =
    let first : length (literal_word l) ≤ k + 1 = word_length k n l s h w o.0 in
    let rest : length (flat_map literal_piece lits) ≤ length lits * (k + 2) = pieces_length k n lits s h w o.1 in
    omega (arith, length-append (literal_piece l) (flat_map literal_piece lits), length-append (literal_word l) (32 ∷ []))

pub clause_length : (k n : ℕ) (lits : List Literal) → 0 < k → n < 10 ^ k → n < 2 ^ 64 → AllByRecursion (IsOver n) lits
    → length (line_of (clause_words lits)) ≤ length lits * (k + 2) + 2
clause_length k n lits s h w o =
    let pieces : length (flat_map literal_piece lits) ≤ length lits * (k + 2) = pieces_length k n lits s h w o in
    omega (arith, ap length (clause_line_pieces lits), length-append (flat_map literal_piece lits) (codes "0\n"))

-- six bytes, ten digits, a blank, twenty digits, the end
pub header_length : (F : Clauses) → F.vars < 2 ^ 32 → length F.hard < 2 ^ 64 → length (line_of (header_words F)) ≤ 40
header_length F v h =
    let vars = decimal F.vars in
    let count = decimal (length F.hard) in
    let short_vars : length vars ≤ 10 = length-decimal-le 10 F.vars (lit< tt) (omega arith) (omega arith) in
    let short_count : length count ≤ 20 = length-decimal-le 20 (length F.hard) (lit< tt) (omega arith) (omega arith) in
    omega (arith, length-append vars (32 ∷ count), length-append (vars ++ (32 ∷ count)) (10 ∷ []))

-- seven bytes, ten digits, a blank, twenty digits, a blank, twenty digits, the end
pub ecnf_header_length : (F : Clauses) → F.vars < 2 ^ 32 → length F.hard < 2 ^ 64 → length F.edges < 2 ^ 64 → length (line_of (ecnf_header_words F)) ≤ 61
ecnf_header_length F v h e =
    let vars = decimal F.vars in
    let count = decimal (length F.hard) in
    let more = decimal (length F.edges) in
    let short_vars : length vars ≤ 10 = length-decimal-le 10 F.vars (lit< tt) (omega arith) (omega arith) in
    let short_count : length count ≤ 20 = length-decimal-le 20 (length F.hard) (lit< tt) (omega arith) (omega arith) in
    let short_more : length more ≤ 20 = length-decimal-le 20 (length F.edges) (lit< tt) (omega arith) (omega arith) in
    omega (arith, length-append count (32 ∷ more), length-append vars (32 ∷ (count ++ (32 ∷ more))), length-append (vars ++ (32 ∷ (count ++ (32 ∷ more)))) (10 ∷ []))

pub wcnf_header_length : (F : Clauses) → F.vars < 2 ^ 32 → length F.hard < 2 ^ 64 → length F.soft < 2 ^ 64 → F.top < 2 ^ 64 → length (line_of (wcnf_header_words F)) ≤ 61
wcnf_header_length F v h s t =
    let vars = decimal F.vars in
    let count = decimal (length F.hard + length F.soft) in
    let top = decimal F.top in
    let short_vars : length vars ≤ 10 = length-decimal-le 10 F.vars (lit< tt) (omega arith) (omega arith) in
    let short_count : length count ≤ 20 = length-decimal-le_wide 20 (length F.hard + length F.soft) (lit< tt) (omega arith) (omega arith) in
    let short_top : length top ≤ 20 = length-decimal-le 20 F.top (lit< tt) (omega arith) (omega arith) in
    omega (arith, length-append count (32 ∷ top), length-append vars (32 ∷ (count ++ (32 ∷ top))), length-append (vars ++ (32 ∷ (count ++ (32 ∷ top)))) (10 ∷ []))

-- ---- edges

node_length : (z : ℤ) → IsTrue (is_node z) → length (signed_decimal z) ≤ 11
node_length z h =
    let above : neg_ℤ (pos (2 ^ 31)) ≤ℤ z = le_from z h in
    let below : z <ℤ pos (2 ^ 31) = lt_from z h in
    length_signed_le 10 z (grind (arith, ints)) (grind (arith, ints))
  where
    le_from : (z : ℤ) → IsTrue (is_node z) → neg_ℤ (pos (2 ^ 31)) ≤ℤ z
    le_from z h = grind (arith, ints)

    lt_from : (z : ℤ) → IsTrue (is_node z) → z <ℤ pos (2 ^ 31)
    lt_from z h = grind (arith, ints)

pub edge_length : (k n : ℕ) (e : LitEdge) → 0 < k → n < 10 ^ k → n < 2 ^ 64 → IsOver n e.lit → HasNodes e → length (line_of (edge_words e)) ≤ 28 + k
edge_length k n e s h w o nodes =
    let from = signed_decimal e.from in
    let to = signed_decimal e.to in
    let lit = literal_word e.lit in
    let short_from : length from ≤ 11 = node_length e.from nodes.0 in
    let short_to : length to ≤ 11 = node_length e.to nodes.1 in
    let short_lit : length lit ≤ k + 1 = word_length k n e.lit s h w o in
    omega (arith, length-append to (32 ∷ lit), length-append from (32 ∷ (to ++ (32 ∷ lit))), length-append (from ++ (32 ∷ (to ++ (32 ∷ lit)))) (10 ∷ []))

pub edge_lines_more : (edges : List LitEdge) (i : ℕ) (e : LitEdge) → slice_get edges i ≡ Some e
    → length (edge_lines (take (i + 1) edges)) ≡ length (edge_lines (take i edges)) + length (line_of (edge_words e))
edge_lines_more edges i e is =
    ap (λ es. length (edge_lines es)) (take_read edges i e is)
    ∙ ap length (sym (flat_map_more (λ e. line_of (edge_words e)) [] (take i edges) e))
    ∙ length-append (edge_lines (take i edges)) (line_of (edge_words e))

-- ---- weights

pub weighted_length : (w : ℕ) (lits : List Literal) → w < 2 ^ 64 → length (line_of (weighted_words w lits)) ≤ 21 + length (line_of (clause_words lits))
weighted_length w lits h =
    let short : length (decimal w) ≤ 20 = length-decimal-le 20 w (lit< tt) (omega arith) (omega arith) in
    omega (arith, ap length (weighted_line w lits), length-append (decimal w) (32 ∷ line_of (clause_words lits)))

pub hard_lines_length : (top : ℕ) (clauses : List (List Literal)) → top < 2 ^ 64 → length (hard_lines top clauses) ≤ length (clause_lines clauses) + length clauses * 21
hard_lines_length top [] h = omega arith
hard_lines_length top (c ∷ cs) h =
    let first : length (line_of (weighted_words top c)) ≤ 21 + length (line_of (clause_words c)) = weighted_length top c h in
    let rest : length (hard_lines top cs) ≤ length (clause_lines cs) + length cs * 21 = hard_lines_length top cs h in
    omega (arith, length-append (line_of (weighted_words top c)) (hard_lines top cs), length-append (line_of (clause_words c)) (clause_lines cs))

pub soft_lines_more : (clauses : List SoftClause) (i : ℕ) (c : SoftClause) → slice_get clauses i ≡ Some c
    → length (soft_lines (take (i + 1) clauses)) ≡ length (soft_lines (take i clauses)) + length (line_of (weighted_words c.weight c.lits))
soft_lines_more clauses i c is =
    ap (λ cs. length (soft_lines cs)) (take_read clauses i c is)
    ∙ ap length (sym (flat_map_more (λ (x : SoftClause). line_of (weighted_words x.weight x.lits)) [] (take i clauses) c))
    ∙ length-append (soft_lines (take i clauses)) (line_of (weighted_words c.weight c.lits))

pub lines_more : (clauses : List (List Literal)) (i : ℕ) (clause : List Literal) → slice_get clauses i ≡ Some clause
    → length (clause_lines (take (i + 1) clauses)) ≡ length (clause_lines (take i clauses)) + length (line_of (clause_words clause))
lines_more clauses i clause e =
    ap (λ cs. length (clause_lines cs)) (take_read clauses i clause e)
    ∙ ap length (sym (flat_map_more (λ lits. line_of (clause_words lits)) [] (take i clauses) clause))
    ∙ length-append (clause_lines (take i clauses)) (line_of (clause_words clause))

pub all_at : {A : Type 0} (P : A → Type 0) (xs : List A) (i : ℕ) (x : A) → AllByRecursion P xs → slice_get xs i ≡ Some x → P x
all_at P xs i x h e = subst P (get_or_from_slice_get xs i x x e) (each-get P xs i x (slice_get_within xs i x e) h)
