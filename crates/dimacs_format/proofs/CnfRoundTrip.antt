-- A CNF text that is written is read as the same formula.
use Rattle.std.proofs.Common.{◌≡◌, refl, sym, ◌∙◌, ap, ℕ, ◌^◌, ◌<◌, List, [], ◌∷◌, ◌++◌, map, length, Ok, codes, arith}
use Rattle.std.specs.List.{flat_map}
use Rattle.asp_base.specs.Faults.{◌>>=◌}
use Rattle.asp_base.specs.Literal.{Literal}
use Rattle.asp_scan.specs.Lines.{end_line}
use Rattle.asp_scan.specs.Words.{line_of}
use Rattle.asp_scan.proofs.NumberText.{decimal-word}
use Rattle.clause_store.specs.Clauses.{Clauses}
use Rattle.clause_store.specs.Facts.{Fits}
use Rattle.dimacs_format.specs.Written.{clause_words, header_words, clause_lines, cnf_text}
use Rattle.dimacs_format.specs.Read.{whole_lines, ended, items_of, behind, formula_of}
use Rattle.dimacs_format.specs.declared.header.Form.TheVariants.{Cnf}
use Rattle.dimacs_format.specs.declared.header.Header.{Header}
use Rattle.dimacs_format.proofs.WrittenText.{IsPlain, lines_at, header-read, text-read, clauses-plain, clauses-read}
use Rattle.std.proofs.lemmas.List.{append-nil}

pub clause_lines-map : (cs : List (List Literal)) → clause_lines cs ≡ flat_map line_of (map clause_words cs)
clause_lines-map [] = refl
clause_lines-map (c ∷ cs) = ap (λ text. line_of (clause_words c) ++ text) (clause_lines-map cs)

header-plain : (F : Clauses) → Fits F → length F.hard < 2 ^ 63 → IsPlain (header_words F)
header-plain F f small = record {
  words_are = (refl, (refl, (decimal-word F.vars (omega (arith, f.vars)), (decimal-word (length F.hard) (omega arith), tt))));
  some = refl;
  plain = refl;
}

pub cnf-read : (F : Clauses) → Fits F → F.edges ≡ [] → F.soft ≡ [] → F.top ≡ 1 → length F.hard < 2 ^ 63 → formula_of (cnf_text F) ≡ Ok F
cnf-read F f edges soft top small =
    let last : ℕ = end_line (cnf_text F) in
    let header : Header = record { vars = F.vars; clauses = length F.hard; form = Cnf } in
    let made : Clauses = record { vars = F.vars; hard = F.hard; edges = []; soft = []; top = 1 } in
    let same : made ≡ F = λ i. record { vars = F.vars; hard = F.hard; edges = sym edges i; soft = sym soft i; top = sym top i } in
    let hard = clauses-read last F.vars 2 f.vars F.hard [] f.hard in
    text-read (cnf_text F) (header_words F) (map clause_words F.hard) header (ap (λ text. line_of (header_words F) ++ text) (clause_lines-map F.hard)) (header-plain F f small) (clauses-plain F.vars f.vars F.hard f.hard)
    (header-read (codes "cnf") [] F.vars (length F.hard) Cnf f.vars (omega arith) refl)
    ∙ ap (λ lines. behind last header (items_of (lines_at 2 lines))) (sym (append-nil (map clause_words F.hard)))
    ∙ ap (λ r. r >>= λ hard. whole_lines hard.1 >>= λ lines. ended lines >>= λ end. Ok (record { vars = F.vars; hard = hard.0; edges = []; soft = []; top = 1 })) hard
    ∙ ap Ok same
