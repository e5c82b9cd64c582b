-- What a line adds, by its first token.
use Rattle.std.proofs.Common.{◌≡◌, refl, sym, ◌∙◌, ap, subst, ℕ, ℤ, Bool, true, false, cond, ◌&&◌, ◌||◌, List, [], ◌∷◌, Option, Some, None, IsSome, IsErr, OnOk, IfErr, Result, Ok, Err, codes}
use Rattle.std.specs.Str.{bytes_eq}
use Rattle.std.proofs.lemmas.Bool.{cond-true, cond-false, false_from_ne_true}
use Rattle.std.proofs.lemmas.Slice.Eq.{bytes_eq-Decides}
use Rattle.asp_base.specs.Faults.{◌>>=◌}
use Rattle.asp_scan.specs.Lines.{Line}
use Rattle.asp_scan.specs.Tokens.{token_at, tokens, integer_of, number_of, number_at, begins_with}
use Rattle.asp_scan.specs.declared.scan.ScanFault.{ScanFault}
use Rattle.asp_scan.proofs.LineTokens.{tokens-some}
use Rattle.asp_scan.proofs.Numerals.{Numbered, numbered}
use Rattle.back_map.specs.Read.{Heard, is, status_of, first_is, first_is_number, with_number, with_numbers, with_status, with_tokens, with_line}
use Rattle.back_map.specs.declared.answer.AnswerKind.{AnswerKind}
use Rattle.back_map.specs.declared.answer.AnswerKind.TheVariants as kinds
use Rattle.back_map.specs.declared.answer.Status.{Status}
use Rattle.back_map.specs.declared.answer.Status.TheVariants.{Satisfied, Unsatisfiable, Unknown}
use Rattle.back_map.specs.private.Kept.{Kept}
use Rattle.back_map.specs.private.Reading.{Step, Follows, Faults, with_words, with_bare}
use Rattle.back_map.proofs.Numbers.{number-bad}
use Rattle.back_map.proofs.Steps.{SameAt, Reaches, Reaches-start, Reaches-next, Reaches-ok, Reaches-err, ok-as, err-as}

-- ---- words that are no status

no_numeral : (text word : List ℕ) (n : ℤ) → integer_of text ≡ None → integer_of word ≡ Some n → bytes_eq word text ≡ false
no_numeral text word n none some = false_from_ne_true _ (λ e.
    let clash : Some n ≡ None = sym some ∙ ap integer_of ((bytes_eq-Decides word text).0 e) ∙ none in cc)

numeral-status : (word : List ℕ) (n : ℤ) (ts : List (List ℕ)) → integer_of word ≡ Some n → status_of (word ∷ ts) ≡ None
numeral-status word n [] some =
    cond-false (is (codes "SAT") word) _ _ (no_numeral (codes "SAT") word n refl some)
    ∙ cond-false (is (codes "UNSAT") word) _ _ (no_numeral (codes "UNSAT") word n refl some)
    ∙ cond-false (is (codes "INDET") word) _ _ (no_numeral (codes "INDET") word n refl some)
numeral-status word n (b ∷ []) some =
    let k : Bool → Option (Status × Bool) = λ t. cond (t && is (codes "SATISFIABLE") b) (Some (Satisfied, false))
    (cond (t && is (codes "UNSATISFIABLE") b) (Some (Unsatisfiable, false)) (cond (t && is (codes "UNKNOWN") b) (Some (Unknown, false)) None)) in
    ap k (no_numeral (codes "s") word n refl some)
numeral-status word n (b ∷ c ∷ []) some =
    let k : Bool → Option (Status × Bool) = λ t. cond (t && (is (codes "OPTIMUM") b && is (codes "FOUND") c)) (Some (Satisfied, false)) None in
    ap k (no_numeral (codes "s") word n refl some)
numeral-status word n (b ∷ c ∷ d ∷ ts) some = refl

v-status : (ts : List (List ℕ)) → status_of (codes "v" ∷ ts) ≡ None
v-status [] = refl
v-status (b ∷ []) = refl
v-status (b ∷ c ∷ []) = refl
v-status (b ∷ c ∷ d ∷ ts) = refl

-- ---- lines

abbrev after_status : ℕ → List ℕ → List (List ℕ) → Heard → Option (Status × Bool) → Result Heard AnswerKind
after_status n token tokens heard o = elim o [
  | Some found ↦ with_status found heard
  | None ↦ cond (is (codes "v") token) (with_numbers n tokens heard)
      (cond (heard.bare && first_is_number (token ∷ tokens)) (with_numbers n (token ∷ tokens) heard) (Err kinds.BadLine))
]

module _ (line first rest : List ℕ) (at : token_at line ≡ Some (first, rest)) (o : bytes_eq first (codes "o") ≡ false) where
  module _ (n : ℕ) (h : Heard) where
    unskipped : with_words (tokens line) n h ≡ after_status n first (tokens rest) h (status_of (first ∷ tokens rest))
    unskipped = ap (λ ts. with_words ts n h) (tokens-some line (first, rest) at) ∙ cond-false (is (codes "o") first) _ _ o

    same-both : (b : Bool) (r other : Result Heard AnswerKind) → r ≡ other → cond b r other ≡ other
    same-both true r other e = e
    same-both false r other e = refl

    bad-numbers : (r : Result (ℤ × List ℕ) ScanFault) → number_at line ≡ r → IsErr r → with_numbers n (first ∷ tokens rest) h ≡ Err kinds.BadLine
    bad-numbers (Ok x) e bad = absurd (cc)
    bad-numbers (Err fault) e bad =
        ap (λ ts. with_numbers n ts h) (sym (tokens-some line (first, rest) at)) ∙ number-bad n line h fault (subst (λ t. IsSome t) (sym at) refl) e

  pub words-v : (old : Kept) → bytes_eq first (codes "v") ≡ true → SameAt (with_words (tokens line)) (λ n. with_numbers n (tokens rest)) old
  words-v old v n h hears =
      let none : status_of (first ∷ tokens rest) ≡ None = ap (λ w. status_of (w ∷ tokens rest)) ((bytes_eq-Decides first (codes "v")).0 v) ∙ v-status (tokens rest) in
      unskipped n h ∙ ap (after_status n first (tokens rest) h) none ∙ cond-true (is (codes "v") first) _ _ v

  pub words-status : (old : Kept) (found : Status × Bool) → Some found ≡ status_of (first ∷ tokens rest) → SameAt (with_words (tokens line)) (λ n. with_status found) old
  words-status old found is_found n h hears = unskipped n h ∙ ap (after_status n first (tokens rest) h) (sym is_found)

  pub words-bad : (old : Kept) → bytes_eq first (codes "v") ≡ false → None ≡ status_of (first ∷ tokens rest) → IsErr (number_at line) → Faults (with_words (tokens line)) old kinds.BadLine
  words-bad old v none bad n h hears =
      unskipped n h ∙ ap (after_status n first (tokens rest) h) (sym none) ∙ cond-false (is (codes "v") first) _ _ v
      ∙ same-both n h (h.bare && first_is_number (first ∷ tokens rest)) (with_numbers n (first ∷ tokens rest) h) (Err kinds.BadLine) (bad-numbers n h (number_at line) refl bad)

-- a line that begins with a number
pub line-number : (line : Line) (rest : List ℕ) (number same : ℤ) (old : Kept) → begins_with 99 line.bytes ≡ false → number_at line.bytes ≡ Ok (number, rest) → same ≡ number
    → SameAt (λ n. with_line n line) (with_bare same (tokens rest)) old
line-number line rest number same old plain e again n h hears =
    let read : Numbered line.bytes number rest = numbered line.bytes number rest e in
    ap (λ b. cond (b || first_is (codes "o") (tokens line.bytes)) (Ok h) (with_tokens n (tokens line.bytes) h)) plain
    ∙ unskipped line.bytes read.word rest read.at (no_numeral (codes "o") read.word number refl read.numeral) n h
    ∙ ap (after_status n read.word (tokens rest) h) (numeral-status read.word number (tokens rest) read.numeral)
    ∙ cond-false (is (codes "v") read.word) _ _ (no_numeral (codes "v") read.word number refl read.numeral)
    ∙ by read.word h.bare read.numeral read.value
  where
    by : (word : List ℕ) (b : Bool) → integer_of word ≡ Some number → number_of word ≡ Some number
        → cond (b && first_is_number (word ∷ tokens rest)) (with_numbers n (word ∷ tokens rest) h) (Err kinds.BadLine)
        ≡ cond b (with_number n (Some same) h >>= with_numbers n (tokens rest)) (Err kinds.BadLine)
    by word false numeral value = refl
    by word true numeral value =
        ap (λ o. cond (elim o as (λ x. Bool) [ None ↦ false | Some k ↦ true ]) (with_numbers n (word ∷ tokens rest) h) (Err kinds.BadLine)) numeral
        ∙ ap (λ o. with_number n o h >>= with_numbers n (tokens rest)) (value ∙ ap (λ z. Some z) (sym again))

-- ---- numbers behind the first

module _ (first same : ℤ) (again : same ≡ first) (ts : List (List ℕ)) (old mid : Kept) (bare : old.bare ≡ true) where
  abbrev then_numbers : Step AnswerKind
  then_numbers n h = with_number n (Some same) h >>= with_numbers n ts

  bare-is : SameAt (with_bare first ts) then_numbers old
  bare-is n h hears = cond-true h.bare _ _ (sym hears.bare ∙ bare) ∙ ap (λ z. with_number n (Some z) h >>= with_numbers n ts) (sym again)

  pub bare-fails : (kind : AnswerKind) → Faults (λ n. with_number n (Some same)) old kind → Faults (with_bare first ts) old kind
  bare-fails kind faults n h hears = bare-is n h hears ∙ ap (λ r. r >>= with_numbers n ts) (faults n h hears)

  reaches : Follows (λ n. with_number n (Some same)) old mid → Reaches then_numbers (λ n. with_numbers n ts) old mid
  reaches follows =
      Reaches-next (λ r. r) (λ kind. kind) (λ h. refl) (λ kind. refl) then_numbers then_numbers (λ n. with_numbers n ts) (λ n. with_number n (Some same)) old old (Reaches-start then_numbers old)
      (λ n h. refl) mid follows

  pub bare-ok : {A : Type 0} (new : Kept) (result : Result A AnswerKind) → Follows (λ n. with_number n (Some same)) old mid → OnOk result (Follows (λ n. with_numbers n ts) mid new)
      → OnOk result (Follows (with_bare first ts) old new)
  bare-ok new result follows more =
      ok-as (with_bare first ts) then_numbers old new result bare-is (Reaches-ok then_numbers (λ n. with_numbers n ts) old mid new result (reaches follows) more)

  pub bare-err : {A : Type 0} (result : Result A AnswerKind) → Follows (λ n. with_number n (Some same)) old mid → IfErr result (λ kind. Faults (λ n. with_numbers n ts) mid kind)
      → IfErr result (λ kind. Faults (with_bare first ts) old kind)
  bare-err result follows more =
      err-as (with_bare first ts) then_numbers old result bare-is (Reaches-err then_numbers (λ n. with_numbers n ts) old mid result (reaches follows) more)
