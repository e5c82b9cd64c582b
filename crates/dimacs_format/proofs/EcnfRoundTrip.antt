-- An ECNF text that is written is read as the same formula.
use Rattle.std.proofs.Common.{◌≡◌, refl, sym, ◌∙◌, ap, ap₂, ℕ, zero, suc, ◌-◌, ◌^◌, ◌≤◌, ◌<◌, nat_lt, nat_abs, ℤ, pos, true, cond, IsTrue, List, [], ◌∷◌, ◌++◌, map, length, Ok, Err, decimal, codes, arith}
use Rattle.std.specs.Fmt.{signed_decimal}
use Rattle.std.specs.List.{AllByRecursion, flat_map}
use Rattle.std.specs.Ordering.{int_eq}
use Rattle.std.proofs.lemmas.Bool.{cond-true, cond-false, le-ltb}
use Rattle.std.proofs.lemmas.Int.{ints}
use Rattle.std.proofs.lemmas.Grind.{flat_map-append}
use Rattle.asp_base.proofs.Each.{each-append}
use Rattle.asp_base.specs.Faults.{◌>>=◌, at_line}
use Rattle.asp_base.specs.Literal.{Literal, Pos, Neg, integer_of, literal_of}
use Rattle.asp_scan.specs.Lines.{end_line}
use Rattle.asp_scan.specs.Tokens.{fits_i64, tokens}
use Rattle.asp_scan.specs.Words.{spaced, line_of}
use Rattle.asp_scan.proofs.WordText.{spaced-tokens}
use Rattle.asp_scan.proofs.NumberText.{decimal-word, fitting-is_word}
use Rattle.clause_store.specs.Clauses.{Clauses}
use Rattle.clause_store.specs.Facts.{IsOver, Fits}
use Rattle.clause_store.specs.declared.formula.LitEdge.{LitEdge}
use Rattle.dimacs_format.specs.Written.{literal_word, clause_words, edge_words, edge_lines, ecnf_header_words, ecnf_text}
use Rattle.dimacs_format.specs.Read.{Field, is_node, HasNodes, line_end, node, edge_literal, edge, edges, whole_lines, ended, formula_of}
use Rattle.dimacs_format.specs.declared.header.Form.TheVariants.{Ecnf}
use Rattle.dimacs_format.specs.declared.header.Header.{Header}
use Rattle.dimacs_format.specs.declared.kind.FormulaKind.TheVariants.{BadEdge, LiteralOutOfRange}
use Rattle.dimacs_format.proofs.Behind.{whole-lines}
use Rattle.dimacs_format.proofs.CnfRoundTrip.{clause_lines-map}
use Rattle.dimacs_format.proofs.WrittenText.{numeral-read, count-read, literal-fits, over-not_zero, IsPlain, lines_at, past, header-read, text-read, clauses-plain, clauses-read}

-- ---- an edge

node-fits : (z : ℤ) → IsTrue (is_node z) → fits_i64 z ≡ true
node-fits z h = grind (arith, ints)

node-read : (z : ℤ) (texts : List (List ℕ)) → IsTrue (is_node z) → node (signed_decimal z ∷ texts) ≡ Ok (z, texts)
node-read z texts h =
    ap (λ r. r >>= λ n. cond (is_node n.0) (Ok n) (Err BadEdge)) (numeral-read BadEdge z texts (node-fits z h))
    ∙ cond-true (is_node z) (Ok (z, texts)) (Err BadEdge) h

within : (vars : ℕ) (l : Literal) (texts : List (List ℕ)) → IsOver vars l → cond {A = Field Literal} (nat_lt vars (nat_abs (integer_of l))) (Err LiteralOutOfRange) (Ok (literal_of (integer_of l), texts)) ≡ Ok (l, texts)
within vars (Pos a) texts o = cond-false (nat_lt vars a) _ _ (le-ltb vars a o.1)
within vars (Neg zero) texts o = absurd (let k : 0 < 0 = o.0 in omega arith)
within vars (Neg (suc n)) texts o = cond-false (nat_lt vars (suc n)) _ _ (le-ltb vars (suc n) o.1)

edge_literal-read : (vars : ℕ) → vars ≤ 2 ^ 31 - 1 → (l : Literal) (texts : List (List ℕ)) → IsOver vars l → edge_literal vars (literal_word l ∷ texts) ≡ Ok (l, texts)
edge_literal-read vars v l texts o =
    ap (λ r. r >>= λ n. cond (int_eq n.0 (pos 0)) (Err BadEdge) (cond (nat_lt vars (nat_abs n.0)) (Err LiteralOutOfRange) (Ok (literal_of n.0, n.1)))) (numeral-read BadEdge (integer_of l) texts (literal-fits vars v l o))
    ∙ cond-false (int_eq (integer_of l) (pos 0)) (Err BadEdge) _ (over-not_zero vars l o)
    ∙ within vars l texts o

edge-read : (vars : ℕ) → vars ≤ 2 ^ 31 - 1 → (e : LitEdge) → IsOver vars e.lit → HasNodes e → edge vars (edge_words e) ≡ Ok e
edge-read vars v e o nodes =
    ap (λ r. r >>= λ from. node from.1 >>= λ to. edge_literal vars to.1 >>= λ lit. line_end BadEdge lit.1 >>= λ end. Ok (record { from = from.0; to = to.0; lit = lit.0 }))
    (node-read e.from (signed_decimal e.to ∷ literal_word e.lit ∷ []) nodes.0)
    ∙ ap (λ r. r >>= λ to. edge_literal vars to.1 >>= λ lit. line_end BadEdge lit.1 >>= λ end. Ok (record { from = e.from; to = to.0; lit = lit.0 }))
    (node-read e.to (literal_word e.lit ∷ []) nodes.1)
    ∙ ap (λ r. r >>= λ lit. line_end BadEdge lit.1 >>= λ end. Ok (record { from = e.from; to = e.to; lit = lit.0 })) (edge_literal-read vars v e.lit [] o)

edge-plain : (vars : ℕ) → vars ≤ 2 ^ 31 - 1 → (e : LitEdge) → IsOver vars e.lit → HasNodes e → IsPlain (edge_words e)
edge-plain vars v e o nodes = record {
  words_are = (refl, (fitting-is_word e.from (node-fits e.from nodes.0), (fitting-is_word e.to (node-fits e.to nodes.1), (fitting-is_word (integer_of e.lit) (literal-fits vars v e.lit o), tt))));
  some = refl;
  plain = refl;
}

edges-plain : (vars : ℕ) → vars ≤ 2 ^ 31 - 1 → (es : List LitEdge) → AllByRecursion (λ (e : LitEdge). IsOver vars e.lit) es → AllByRecursion HasNodes es → AllByRecursion IsPlain (map edge_words es)
edges-plain vars v [] o nodes = tt
edges-plain vars v (e ∷ es) o nodes = (edge-plain vars v e o.0 nodes.0, edges-plain vars v es o.1 nodes.1)

edges-read : (last vars n : ℕ) → vars ≤ 2 ^ 31 - 1 → (es : List LitEdge) → AllByRecursion (λ (e : LitEdge). IsOver vars e.lit) es → AllByRecursion HasNodes es
    → edges last vars (length es) (lines_at n (map edge_words es)) ≡ Ok (es, [])
edges-read last vars n v [] o nodes = refl
edges-read last vars n v (e ∷ es) o nodes =
    let first : edge vars (tokens (spaced (edge_words e))) ≡ Ok e =
    ap (edge vars) (spaced-tokens (edge_words e) (edge-plain vars v e o.0 nodes.0).words_are) ∙ edge-read vars v e o.0 nodes.0 in
    ap (λ r. at_line n r >>= λ x. edges last vars (length es) (lines_at (suc n) (map edge_words es)) >>= λ more. Ok (x ∷ more.0, more.1)) first
    ∙ ap (λ r. r >>= λ more. Ok (e ∷ more.0, more.1)) (edges-read last vars (suc n) v es o.1 nodes.1)

-- ---- the text

edge_lines-map : (es : List LitEdge) → edge_lines es ≡ flat_map line_of (map edge_words es)
edge_lines-map [] = refl
edge_lines-map (e ∷ es) = ap (λ text. line_of (edge_words e) ++ text) (edge_lines-map es)

header-plain : (F : Clauses) → Fits F → length F.hard < 2 ^ 63 → length F.edges < 2 ^ 63 → IsPlain (ecnf_header_words F)
header-plain F f small few = record {
  words_are = (refl, (refl, (decimal-word F.vars (omega (arith, f.vars)), (decimal-word (length F.hard) (omega arith), (decimal-word (length F.edges) (omega arith), tt)))));
  some = refl;
  plain = refl;
}

pub ecnf-read : (F : Clauses) → Fits F → F.soft ≡ [] → F.top ≡ 1 → AllByRecursion HasNodes F.edges → length F.hard < 2 ^ 63 → length F.edges < 2 ^ 63 → formula_of (ecnf_text F) ≡ Ok F
ecnf-read F f soft top nodes small few =
    let last : ℕ = end_line (ecnf_text F) in
    let header : Header = record { vars = F.vars; clauses = length F.hard; form = Ecnf (length F.edges) } in
    let made : Clauses = record { vars = F.vars; hard = F.hard; edges = F.edges; soft = []; top = 1 } in
    let same : made ≡ F = λ i. record { vars = F.vars; hard = F.hard; edges = F.edges; soft = sym soft i; top = sym top i } in
    let lines = map clause_words F.hard ++ map edge_words F.edges in
    let behind_hard = past 2 F.hard in
    let text = ap (λ text. line_of (ecnf_header_words F) ++ text) (ap₂ (λ a b. a ++ b) (clause_lines-map F.hard) (edge_lines-map F.edges) ∙ sym (flat_map-append line_of (map clause_words F.hard) (map edge_words F.edges))) in
    text-read (ecnf_text F) (ecnf_header_words F) lines header text (header-plain F f small few) (each-append IsPlain (map clause_words F.hard) (map edge_words F.edges) (clauses-plain F.vars f.vars F.hard f.hard) (edges-plain F.vars f.vars F.edges f.edges nodes))
    (header-read (codes "ecnf") (decimal (length F.edges) ∷ []) F.vars (length F.hard) (Ecnf (length F.edges)) f.vars (omega arith)
    (ap (λ r. r >>= λ n. Ok (Ecnf n.0, n.1)) (count-read 0 (2 ^ 63 - 1) (length F.edges) [] (omega arith) (omega arith) (omega arith))))
    ∙ ap (λ r. r >>= λ hard. whole_lines hard.1 >>= λ ls. edges last F.vars (length F.edges) ls >>= λ found. ended found.1 >>= λ end. Ok (record { vars = F.vars; hard = hard.0; edges = found.0; soft = []; top = 1 }))
    (clauses-read last F.vars 2 f.vars F.hard (map edge_words F.edges) f.hard)
    ∙ ap (λ r. r >>= λ ls. edges last F.vars (length F.edges) ls >>= λ found. ended found.1 >>= λ end. Ok (record { vars = F.vars; hard = F.hard; edges = found.0; soft = []; top = 1 }))
    (whole-lines (lines_at behind_hard (map edge_words F.edges)))
    ∙ ap (λ r. r >>= λ found. ended found.1 >>= λ end. Ok (record { vars = F.vars; hard = F.hard; edges = found.0; soft = []; top = 1 })) (edges-read last F.vars behind_hard f.vars F.edges f.edges nodes)
    ∙ ap Ok same
