-- A WCNF text that is written is read as the same formula.
use Rattle.std.proofs.Common.{◌≡◌, refl, sym, ◌∙◌, ap, ap₂, ℕ, suc, ◌+◌, ◌-◌, ◌^◌, ◌≤◌, ◌<◌, nat_le, nat_lt, pos, int_lt, false, List, [], ◌∷◌, ◌++◌, map, length, Ok, decimal, codes, arith}
use Rattle.std.specs.List.{AllByRecursion, flat_map, filter}
use Rattle.std.proofs.lemmas.Bool.{cond-true, cond-false, le-ltb, lt-ltb, le-leb}
use Rattle.std.proofs.lemmas.Int.{ints}
use Rattle.std.proofs.lemmas.Grind.{flat_map-append}
use Rattle.std.proofs.lemmas.List.{length-append, length-map, map-append}
use Rattle.asp_base.specs.Faults.{fault, ◌>>=◌}
use Rattle.asp_base.specs.Literal.{Literal}
use Rattle.asp_base.proofs.Each.{each-append}
use Rattle.asp_scan.specs.Lines.{end_line}
use Rattle.asp_scan.specs.Tokens.{tokens}
use Rattle.asp_scan.specs.Words.{spaced, line_of}
use Rattle.asp_scan.proofs.WordText.{spaced-tokens}
use Rattle.asp_scan.proofs.NumberText.{decimal-word, number_of-signed, fits_i64-pos}
use Rattle.clause_store.specs.Clauses.{Clauses}
use Rattle.clause_store.specs.Facts.{IsOver, Fits}
use Rattle.clause_store.specs.Soft.{weights_of}
use Rattle.clause_store.specs.declared.formula.SoftClause.{SoftClause}
use Rattle.dimacs_format.specs.Written.{clause_words, weighted_words, hard_lines, soft_lines, wcnf_header_words, wcnf_text}
use Rattle.dimacs_format.specs.Read.{Item, Word, words_at, items_of, weight, weighted, hard_of, soft_of, whole_lines, ended, formula_of}
use Rattle.dimacs_format.specs.declared.header.Form.TheVariants.{Wcnf}
use Rattle.dimacs_format.specs.declared.header.Header.{Header}
use Rattle.dimacs_format.specs.declared.kind.FormulaKind.TheVariants.{ZeroWeight}
use Rattle.dimacs_format.proofs.WeightSteps.{after_weight, then_clause, then_rest, not_below}
use Rattle.dimacs_format.proofs.WrittenText.{count-read, clause-words, clause-read, number-plain, IsPlain, lines_at, header-read, text-read}

-- ---- all clauses with their weights, in the order of the text

abbrev of_weight : ℕ → List Literal → SoftClause
of_weight w lits = record { weight = w; lits = lits }

abbrev all_clauses : Clauses → List SoftClause
all_clauses F = map (of_weight F.top) F.hard ++ F.soft

abbrev words_of : SoftClause → List (List ℕ)
words_of c = weighted_words c.weight c.lits

-- a weight that is read, and literals over the variables
abbrev Stands : ℕ → SoftClause → Type 0
Stands vars c = (0 < c.weight) × (c.weight < 2 ^ 63) × AllByRecursion (IsOver vars) c.lits

hard-stand : (vars top : ℕ) → 0 < top → top < 2 ^ 63 → (cs : List (List Literal)) → AllByRecursion (AllByRecursion (IsOver vars)) cs → AllByRecursion (Stands vars) (map (of_weight top) cs)
hard-stand vars top above below [] o = tt
hard-stand vars top above below (c ∷ cs) o = ((above, below, o.0), hard-stand vars top above below cs o.1)

soft-stand : (vars most : ℕ) → most < 2 ^ 63 → (cs : List SoftClause) → weights_of cs ≤ most → AllByRecursion (λ (c : SoftClause). (0 < c.weight) × AllByRecursion (IsOver vars) c.lits) cs → AllByRecursion (Stands vars) cs
soft-stand vars most below [] h o = tt
soft-stand vars most below (c ∷ cs) h o = ((o.0.0, (let k : c.weight < 2 ^ 63 = omega (arith, h) in k), o.0.1), soft-stand vars most below cs (omega (arith, h)) o.1)

-- ---- the parts

hard_of-hard : (top : ℕ) (cs : List (List Literal)) (soft : List SoftClause) → hard_of top soft ≡ [] → hard_of top (map (of_weight top) cs ++ soft) ≡ cs
hard_of-hard top [] soft h = h
hard_of-hard top (c ∷ cs) soft h =
    ap (map (λ (x : SoftClause). x.lits)) (cond-true (nat_le top top) (of_weight top c ∷ filter (λ (x : SoftClause). nat_le top x.weight) (map (of_weight top) cs ++ soft)) _ (le-leb top top (omega arith)))
    ∙ ap (λ ls. c ∷ ls) (hard_of-hard top cs soft h)

hard_of-soft : (top : ℕ) (cs : List SoftClause) → weights_of cs < top → hard_of top cs ≡ []
hard_of-soft top [] h = refl
hard_of-soft top (c ∷ cs) h =
    ap (map (λ (x : SoftClause). x.lits)) (cond-false (nat_le top c.weight) (c ∷ filter (λ (x : SoftClause). nat_le top x.weight) cs) _ (lt-not_le top c.weight (omega (arith, h))))
    ∙ hard_of-soft top cs (omega (arith, h))
  where
    lt-not_le : (a b : ℕ) → b < a → nat_le a b ≡ false
    lt-not_le a b h = grind arith

soft_of-hard : (top : ℕ) (cs : List (List Literal)) (soft : List SoftClause) → soft_of top (map (of_weight top) cs ++ soft) ≡ soft_of top soft
soft_of-hard top [] soft = refl
soft_of-hard top (c ∷ cs) soft =
    cond-false (nat_lt top top) (of_weight top c ∷ soft_of top (map (of_weight top) cs ++ soft)) _ (le-ltb top top (omega arith)) ∙ soft_of-hard top cs soft

soft_of-soft : (top : ℕ) (cs : List SoftClause) → weights_of cs < top → soft_of top cs ≡ cs
soft_of-soft top [] h = refl
soft_of-soft top (c ∷ cs) h =
    cond-true (nat_lt c.weight top) (c ∷ soft_of top cs) _ (lt-ltb c.weight top (omega (arith, h))) ∙ ap (λ xs. c ∷ xs) (soft_of-soft top cs (omega (arith, h)))

-- ---- what is read

one-plain : (vars : ℕ) → vars ≤ 2 ^ 31 - 1 → (c : SoftClause) → Stands vars c → IsPlain (words_of c)
one-plain vars v c o = number-plain (pos c.weight) (clause_words c.lits) (fits_i64-pos c.weight o.1) (clause-words vars v c.lits o.2)

all-plain : (vars : ℕ) → vars ≤ 2 ^ 31 - 1 → (cs : List SoftClause) → AllByRecursion (Stands vars) cs → AllByRecursion IsPlain (map words_of cs)
all-plain vars v [] o = tt
all-plain vars v (c ∷ cs) o = (one-plain vars v c o.0, all-plain vars v cs o.1)

weight-read : (last line w : ℕ) (rest : List Item) → 0 < w → w < 2 ^ 63 → weight last (Word (record { line = line; text = decimal w }) ∷ rest) ≡ Ok (w, rest)
weight-read last line w rest above below =
    after_weight last (record { line = line; text = decimal w }) (pos w) rest (number_of-signed (pos w) (fits_i64-pos w below))
    ∙ cond-false (int_lt (pos w) (pos 1)) (fault line ZeroWeight) (Ok (w, rest)) (not_below (pos w) (omega (arith, ints, above)))

weighted-read : (last vars n : ℕ) → vars ≤ 2 ^ 31 - 1 → (cs : List SoftClause) → AllByRecursion (Stands vars) cs → weighted last vars (length cs) (items_of (lines_at n (map words_of cs))) ≡ Ok (cs, [])
weighted-read last vars n v [] o = refl
weighted-read last vars n v (c ∷ cs) o =
    let rest : List Item = items_of (lines_at (suc n) (map words_of cs)) in
    let first : weight last (words_at n (tokens (spaced (words_of c))) ++ rest) ≡ Ok (c.weight, words_at n (clause_words c.lits) ++ rest) =
    ap (λ ts. weight last (words_at n ts ++ rest)) (spaced-tokens (words_of c) (one-plain vars v c o.0).words_are) ∙ weight-read last n c.weight (words_at n (clause_words c.lits) ++ rest) o.0.0 o.0.1 in
    ap (then_clause last vars (length cs)) first
    ∙ ap (then_rest last vars (length cs) c.weight) (clause-read last vars n v c.lits rest o.0.2)
    ∙ ap (λ r. r >>= λ more. Ok (of_weight c.weight c.lits ∷ more.0, more.1)) (weighted-read last vars (suc n) v cs o.1)

-- ---- the text

hard_lines-map : (top : ℕ) (cs : List (List Literal)) → hard_lines top cs ≡ flat_map line_of (map words_of (map (of_weight top) cs))
hard_lines-map top [] = refl
hard_lines-map top (c ∷ cs) = ap (λ text. line_of (weighted_words top c) ++ text) (hard_lines-map top cs)

soft_lines-map : (cs : List SoftClause) → soft_lines cs ≡ flat_map line_of (map words_of cs)
soft_lines-map [] = refl
soft_lines-map (c ∷ cs) = ap (λ text. line_of (words_of c) ++ text) (soft_lines-map cs)

header-plain : (F : Clauses) → Fits F → length F.hard + length F.soft < 2 ^ 63 → F.top < 2 ^ 63 → IsPlain (wcnf_header_words F)
header-plain F f small top = record {
  words_are = (refl, (refl, (decimal-word F.vars (omega (arith, f.vars)), (decimal-word (length F.hard + length F.soft) (omega arith), (decimal-word F.top (omega arith), tt)))));
  some = refl;
  plain = refl;
}

pub wcnf-read : (F : Clauses) → Fits F → F.edges ≡ [] → weights_of F.soft < F.top → F.top ≤ 2 ^ 63 - 1 → length F.hard + length F.soft < 2 ^ 63 → formula_of (wcnf_text F) ≡ Ok F
wcnf-read F f edges heavy top small =
    let last : ℕ = end_line (wcnf_text F) in
    let all = all_clauses F in
    let n = length F.hard + length F.soft in
    let header : Header = record { vars = F.vars; clauses = n; form = Wcnf F.top } in
    let stand : AllByRecursion (Stands F.vars) all =
    each-append (Stands F.vars) (map (of_weight F.top) F.hard) F.soft (hard-stand F.vars F.top (omega (arith, heavy)) (omega (arith, top)) F.hard f.hard) (soft-stand F.vars F.top (omega (arith, top)) F.soft (omega (arith, heavy)) f.soft) in
    let made : List (List Literal) → List SoftClause → Clauses = λ hard soft. record { vars = F.vars; hard = hard; edges = []; soft = soft; top = F.top } in
    let same : made F.hard F.soft ≡ F = λ i. record { vars = F.vars; hard = F.hard; edges = sym edges i; soft = F.soft; top = F.top } in
    let count : length all ≡ n = length-append (map (of_weight F.top) F.hard) F.soft ∙ ap (λ k. k + length F.soft) (length-map F.hard (of_weight F.top)) in
    let text = ap (λ text. line_of (wcnf_header_words F) ++ text)
    (ap₂ (λ a b. a ++ b) (hard_lines-map F.top F.hard) (soft_lines-map F.soft)
    ∙ sym (flat_map-append line_of (map words_of (map (of_weight F.top) F.hard)) (map words_of F.soft))
    ∙ ap (flat_map line_of) (sym (map-append words_of (map (of_weight F.top) F.hard) F.soft))) in
    let lines = items_of (lines_at 2 (map words_of all)) in
    text-read (wcnf_text F) (wcnf_header_words F) (map words_of all) header text (header-plain F f small (omega (arith, top))) (all-plain F.vars f.vars all stand)
    (header-read (codes "wcnf") (decimal F.top ∷ []) F.vars n (Wcnf F.top) f.vars (omega arith)
    (ap (λ r. r >>= λ n. Ok (Wcnf n.0, n.1)) (count-read 1 (2 ^ 63 - 1) F.top [] (omega (arith, heavy)) top (omega arith))))
    ∙ ap (λ r. r >>= λ found. whole_lines found.1 >>= λ ls. ended ls >>= λ end. Ok (made (hard_of F.top found.0) (soft_of F.top found.0)))
    (ap (λ k. weighted last F.vars k lines) (sym count) ∙ weighted-read last F.vars 2 f.vars all stand)
    ∙ ap₂ (λ hard soft. Ok (made hard soft)) (hard_of-hard F.top F.hard F.soft (hard_of-soft F.top F.soft heavy)) (soft_of-hard F.top F.hard F.soft ∙ soft_of-soft F.top F.soft heavy)
    ∙ ap Ok same
