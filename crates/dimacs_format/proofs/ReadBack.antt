-- What is appended to a text that fits memory is read as the formula.
use Rattle.std.proofs.Common.{◌≡◌, ap, ℕ, ◌+◌, ◌-◌, ◌^◌, ◌<◌, ◌≤◌, List, [], ◌∷◌, ◌++◌, length, Ok, length-append, arith}
use Rattle.std.specs.List.{AllByRecursion, flat_map}
use Rattle.asp_scan.specs.Words.{spaced, line_of}
use Rattle.clause_store.specs.Clauses.{Clauses}
use Rattle.clause_store.specs.Facts.{Fits}
use Rattle.clause_store.specs.Soft.{weights_of}
use Rattle.clause_store.specs.declared.formula.SoftClause.{SoftClause}
use Rattle.dimacs_format.specs.Written.{clause_words, header_words, clause_lines, cnf_text, edge_words, edge_lines, ecnf_header_words, ecnf_text, weighted_words, hard_lines, soft_lines, wcnf_header_words, wcnf_text}
use Rattle.dimacs_format.specs.Read.{HasNodes, formula_of}
use Rattle.dimacs_format.proofs.CnfRoundTrip.{cnf-read}
use Rattle.dimacs_format.proofs.EcnfRoundTrip.{ecnf-read}
use Rattle.dimacs_format.proofs.WcnfRoundTrip.{wcnf-read}

-- there are no more items than bytes of their lines
lines-within : {A : Type 0} (words : A → List (List ℕ)) (xs : List A) → length xs ≤ length (flat_map (λ x. line_of (words x)) xs)
lines-within words [] = omega arith
lines-within words (x ∷ xs) =
    let both : length (flat_map (λ y. line_of (words y)) (x ∷ xs)) ≡ length (line_of (words x)) + length (flat_map (λ y. line_of (words y)) xs) = length-append (line_of (words x)) (flat_map (λ y. line_of (words y)) xs) in
    let line : length (line_of (words x)) ≡ length (spaced (words x)) + 1 = length-append (spaced (words x)) (10 ∷ []) in
    let rest : length xs ≤ length (flat_map (λ y. line_of (words y)) xs) = lines-within words xs in
    omega arith

-- what was appended is no longer than the whole
part-within : (before after part : List ℕ) → length after < 2 ^ 63 → after ≡ before ++ part → length part < 2 ^ 63
part-within before after part small e = omega (arith, small, ap length e, length-append before part)

pub cnf-back : (before after : List ℕ) (F : Clauses) → Fits F → F.edges ≡ [] → F.soft ≡ [] → F.top ≡ 1 → length after < 2 ^ 63
    → after ≡ before ++ cnf_text F → formula_of (cnf_text F) ≡ Ok F
cnf-back before after F fits edges soft top small e =
    let text : length (cnf_text F) < 2 ^ 63 = part-within before after (cnf_text F) small e in
    let lines : length (cnf_text F) ≡ length (line_of (header_words F)) + length (clause_lines F.hard) = length-append (line_of (header_words F)) (clause_lines F.hard) in
    let hard : length F.hard ≤ length (clause_lines F.hard) = lines-within clause_words F.hard in
    cnf-read F fits edges soft top (omega arith)

pub ecnf-back : (before after : List ℕ) (F : Clauses) → Fits F → F.soft ≡ [] → F.top ≡ 1 → length after < 2 ^ 63
    → after ≡ before ++ ecnf_text F → AllByRecursion HasNodes F.edges → formula_of (ecnf_text F) ≡ Ok F
ecnf-back before after F fits soft top small e nodes =
    let text : length (ecnf_text F) < 2 ^ 63 = part-within before after (ecnf_text F) small e in
    let lines : length (ecnf_text F) ≡ length (line_of (ecnf_header_words F)) + length (clause_lines F.hard ++ edge_lines F.edges) = length-append (line_of (ecnf_header_words F)) (clause_lines F.hard ++ edge_lines F.edges) in
    let both : length (clause_lines F.hard ++ edge_lines F.edges) ≡ length (clause_lines F.hard) + length (edge_lines F.edges) = length-append (clause_lines F.hard) (edge_lines F.edges) in
    let hard : length F.hard ≤ length (clause_lines F.hard) = lines-within clause_words F.hard in
    let edges : length F.edges ≤ length (edge_lines F.edges) = lines-within edge_words F.edges in
    ecnf-read F fits soft top nodes (omega arith) (omega arith)

pub wcnf-back : (before after : List ℕ) (F : Clauses) → Fits F → F.edges ≡ [] → weights_of F.soft < F.top → F.top ≤ 2 ^ 63 - 1 → length after < 2 ^ 63
    → after ≡ before ++ wcnf_text F → formula_of (wcnf_text F) ≡ Ok F
wcnf-back before after F fits edges heavy top small e =
    let text : length (wcnf_text F) < 2 ^ 63 = part-within before after (wcnf_text F) small e in
    let lines : length (wcnf_text F) ≡ length (line_of (wcnf_header_words F)) + length (hard_lines F.top F.hard ++ soft_lines F.soft) = length-append (line_of (wcnf_header_words F)) (hard_lines F.top F.hard ++ soft_lines F.soft) in
    let both : length (hard_lines F.top F.hard ++ soft_lines F.soft) ≡ length (hard_lines F.top F.hard) + length (soft_lines F.soft) = length-append (hard_lines F.top F.hard) (soft_lines F.soft) in
    let hard : length F.hard ≤ length (hard_lines F.top F.hard) = lines-within (weighted_words F.top) F.hard in
    let soft : length F.soft ≤ length (soft_lines F.soft) = lines-within (λ (c : SoftClause). weighted_words c.weight c.lits) F.soft in
    wcnf-read F fits edges heavy top (omega arith)
