-- A text of lines of words, none of them blank or a comment, is read as these lines; and what is
-- read of the words of numbers, literals, clauses and headers.
use Rattle.std.proofs.Common.{◌≡◌, refl, sym, ◌∙◌, ap, ℕ, zero, suc, ◌-◌, ◌^◌, ◌≤◌, ◌<◌, ◌==◌, nat_le, nat_lt, ℤ, pos, negsuc, nat_abs, int_le, true, false, not, cond, ◌&&◌, List, [], ◌∷◌, ◌++◌, map, length, append_assoc, Some, None, Ok, Err, decimal, codes, arith}
use Rattle.std.specs.Fmt.{signed_decimal}
use Rattle.std.specs.List.{AllByRecursion, flat_map, list_all}
use Rattle.std.specs.Ordering.{int_eq}
use Rattle.std.proofs.lemmas.Bool.{and_parts, and_from, cond-true, cond-false, true≢false, le-ltb, le-leb, leb-true, ne_eqb}
use Rattle.asp_base.specs.Faults.{◌>>=◌, at_line}
use Rattle.asp_base.specs.Literal.{Literal, Pos, Neg, integer_of}
use Rattle.asp_scan.specs.Lines.{Line, is_blank_line, pieces_of, numbered, end_line}
use Rattle.asp_scan.specs.Tokens.{is_digit, fits_i64, tokens, begins_with}
use Rattle.asp_scan.specs.Words.{spaced, line_of, IsWord}
use Rattle.asp_scan.proofs.LineText.{numbered-written}
use Rattle.asp_scan.proofs.WordText.{spaced-line, spaced-not_blank, spaced-tokens}
use Rattle.asp_scan.proofs.NumberText.{decimal-spells, fitting-is_word, IsShort-from_fits, number_of-signed, fits_i64-pos, fits_i64-negsuc}
use Rattle.clause_store.specs.Facts.{IsOver}
use Rattle.dimacs_format.specs.Written.{literal_word, clause_words}
use Rattle.dimacs_format.specs.Read.{Field, Item, is_comment, content_of, words_at, items_of, numeral, line_end, count, form_of, header_of, literal, clause, next_clause, clauses, behind, from_lines, formula_of}
use Rattle.dimacs_format.specs.private.Walks.{onto}
use Rattle.dimacs_format.specs.declared.header.Form.{Form}
use Rattle.dimacs_format.specs.declared.header.Header.{Header}
use Rattle.dimacs_format.specs.declared.kind.FormulaKind.{FormulaKind}
use Rattle.dimacs_format.specs.declared.kind.FormulaKind.TheVariants.{BadHeader}
use Rattle.dimacs_format.proofs.ClauseSteps.{after_number, not_zero}

-- ---- numbers

pub numeral-read : (bad : FormulaKind) (z : ℤ) (texts : List (List ℕ)) → fits_i64 z ≡ true → numeral bad (signed_decimal z ∷ texts) ≡ Ok (z, texts)
numeral-read bad z texts h = ap (λ o. elim o as (λ x. Field ℤ) [ None ↦ Err bad | Some n ↦ Ok (n, texts) ]) (number_of-signed z h)

pub count-read : (low high n : ℕ) (texts : List (List ℕ)) → low ≤ n → n ≤ high → high < 2 ^ 63 → count low high (decimal n ∷ texts) ≡ Ok (n, texts)
count-read low high n texts l h most =
    ap (λ r. r >>= λ m. cond (int_le (pos low) m.0 && int_le m.0 (pos high)) (Ok (nat_abs m.0, m.1)) (Err BadHeader)) (numeral-read BadHeader (pos n) texts (fits_i64-pos n (omega arith)))
    ∙ cond-true (int_le (pos low) (pos n) && int_le (pos n) (pos high)) (Ok (n, texts)) (Err BadHeader) (and_from _ _ (le-leb low n l) (le-leb n high h))

-- ---- literals

pub literal-fits : (vars : ℕ) → vars ≤ 2 ^ 31 - 1 → (l : Literal) → IsOver vars l → fits_i64 (integer_of l) ≡ true
literal-fits vars h (Pos a) o = fits_i64-pos a (let k : a ≤ vars = o.1 in omega arith)
literal-fits vars h (Neg zero) o = refl
literal-fits vars h (Neg (suc n)) o = fits_i64-negsuc n (let k : suc n ≤ vars = o.1 in omega arith)

pub over-not_zero : (vars : ℕ) (l : Literal) → IsOver vars l → int_eq (integer_of l) (pos 0) ≡ false
over-not_zero vars (Pos a) o = not_zero (pos a) (λ e. let zero : a ≡ 0 = cc in let above : 0 < a = o.0 in omega arith)
over-not_zero vars (Neg zero) o = absurd (let k : 0 < 0 = o.0 in omega arith)
over-not_zero vars (Neg (suc n)) o = refl

literal-read : (vars line : ℕ) (l : Literal) → IsOver vars l → literal vars line (integer_of l) ≡ Ok l
literal-read vars line (Pos a) o = cond-false (nat_lt vars a) _ _ (le-ltb vars a o.1)
literal-read vars line (Neg zero) o = absurd (let k : 0 < 0 = o.0 in omega arith)
literal-read vars line (Neg (suc n)) o = cond-false (nat_lt vars (suc n)) _ _ (le-ltb vars (suc n) o.1)

-- ---- clauses

pub clause-read : (last vars line : ℕ) → vars ≤ 2 ^ 31 - 1 → (lits : List Literal) (rest : List Item) → AllByRecursion (IsOver vars) lits → clause last vars (words_at line (clause_words lits) ++ rest) ≡ Ok (lits, rest)
clause-read last vars line v [] rest o = refl
clause-read last vars line v (l ∷ lits) rest o =
    let items : List Item = words_at line (clause_words lits) ++ rest in
    after_number last vars (record { line = line; text = literal_word l }) (integer_of l) items (number_of-signed (integer_of l) (literal-fits vars v l o.0))
    ∙ cond-false (int_eq (integer_of l) (pos 0)) (Ok ([], items)) _ (over-not_zero vars l o.0)
    ∙ ap (λ r. r >>= λ x. onto (x ∷ []) (clause last vars items)) (literal-read vars line l o.0)
    ∙ ap (onto (l ∷ [])) (clause-read last vars line v lits rest o.1)

pub clause-words : (vars : ℕ) → vars ≤ 2 ^ 31 - 1 → (c : List Literal) → AllByRecursion (IsOver vars) c → AllByRecursion IsWord (clause_words c)
clause-words vars v [] o = (refl, tt)
clause-words vars v (l ∷ c) o = (fitting-is_word (integer_of l) (literal-fits vars v l o.0), clause-words vars v c o.1)

-- ---- lines that are neither blank nor comments

digit-plain : (d : ℕ) → is_digit d ≡ true → (d == 99) ≡ false
digit-plain d h = let k : d ≤ 57 = leb-true d 57 (and_parts (nat_le 48 d) (nat_le d 57) h).1 in ne_eqb d 99 (λ e. omega arith)

digits-plain : (digits : List ℕ) → list_all is_digit digits ≡ true → begins_with 99 digits ≡ false
digits-plain [] h = refl
digits-plain (d ∷ digits) h = digit-plain d (and_parts (is_digit d) (list_all is_digit digits) h).0

signed-plain : (z : ℤ) → fits_i64 z ≡ true → begins_with 99 (signed_decimal z) ≡ false
signed-plain (pos n) fits = digits-plain (decimal n) (decimal-spells n (IsShort-from_fits (pos n) fits)).digits_all
signed-plain (negsuc n) fits = refl

spaced-plain : (word : List ℕ) (words : List (List ℕ)) → IsWord word → begins_with 99 word ≡ false → begins_with 99 (spaced (word ∷ words)) ≡ false
spaced-plain [] words h p = absurd (true≢false (sym h))
spaced-plain (byte ∷ word) [] h p = p
spaced-plain (byte ∷ word) (next ∷ words) h p = p

pub record IsPlain (words : List (List ℕ)) : Type 0 where
  pub words_are : AllByRecursion IsWord words
  pub some : is_blank_line (spaced words) ≡ false
  pub plain : begins_with 99 (spaced words) ≡ false

-- a line that begins with a number
pub number-plain : (z : ℤ) (words : List (List ℕ)) → fits_i64 z ≡ true → AllByRecursion IsWord words → IsPlain (signed_decimal z ∷ words)
number-plain z words fits rest =
    let first : IsWord (signed_decimal z) = fitting-is_word z fits in
    record {
      words_are = (first, rest);
      some = spaced-not_blank (signed_decimal z) words first;
      plain = spaced-plain (signed_decimal z) words first (signed-plain z fits);
    }

pub clause-plain : (vars : ℕ) → vars ≤ 2 ^ 31 - 1 → (c : List Literal) → AllByRecursion (IsOver vars) c → IsPlain (clause_words c)
clause-plain vars v [] o = record { words_are = (refl, tt); some = refl; plain = refl }
clause-plain vars v (l ∷ c) o = number-plain (integer_of l) (clause_words c) (literal-fits vars v l o.0) (clause-words vars v c o.1)

pub clauses-plain : (vars : ℕ) → vars ≤ 2 ^ 31 - 1 → (cs : List (List Literal)) → AllByRecursion (AllByRecursion (IsOver vars)) cs → AllByRecursion IsPlain (map clause_words cs)
clauses-plain vars v [] o = tt
clauses-plain vars v (c ∷ cs) o = (clause-plain vars v c o.0, clauses-plain vars v cs o.1)

abbrev pub lines_at : ℕ → List (List (List ℕ)) → List Line
lines_at n [] = []
lines_at n (words ∷ more) = record { number = n; bytes = spaced words } ∷ lines_at (suc n) more

numbered-lines : (n : ℕ) (lines : List (List (List ℕ))) → AllByRecursion IsPlain lines → numbered n (pieces_of (flat_map line_of lines)) ≡ lines_at n lines
numbered-lines n [] h = refl
numbered-lines n (words ∷ more) h =
    ap (λ text. numbered n (pieces_of text)) (append_assoc (spaced words) (10 ∷ []) (flat_map line_of more))
    ∙ numbered-written n (spaced words) (flat_map line_of more) (spaced-line words h.0.words_are) h.0.some
    ∙ ap (λ (lines : List Line). record { number = n; bytes = spaced words } ∷ lines) (numbered-lines (suc n) more h.1)

content-lines : (n : ℕ) (lines : List (List (List ℕ))) → AllByRecursion IsPlain lines → content_of (lines_at n lines) ≡ lines_at n lines
content-lines n [] h = refl
content-lines n (words ∷ more) h =
    let line : Line = record { number = n; bytes = spaced words } in
    cond-true (not (is_comment line)) (line ∷ content_of (lines_at (suc n) more)) (content_of (lines_at (suc n) more)) (ap not h.0.plain)
    ∙ ap (λ (lines : List Line). line ∷ lines) (content-lines (suc n) more h.1)

-- ---- the header

pub header-read : (name : List ℕ) (rest : List (List ℕ)) (vars n : ℕ) (form : Form) → vars ≤ 2 ^ 31 - 1 → n ≤ 2 ^ 63 - 1 → form_of name rest ≡ Ok (form, [])
    → header_of (codes "p" ∷ name ∷ decimal vars ∷ decimal n ∷ rest) ≡ Ok (record { vars = vars; clauses = n; form = form })
header-read name rest vars n form v c h =
    ap (λ r. r >>= λ vs. count 0 (2 ^ 63 - 1) vs.1 >>= λ cs. form_of name cs.1 >>= λ f. line_end BadHeader f.1 >>= λ end. Ok (record { vars = vs.0; clauses = cs.0; form = f.0 }))
    (count-read 0 (2 ^ 31 - 1) vars (decimal n ∷ rest) (omega arith) v (omega arith))
    ∙ ap (λ r. r >>= λ cs. form_of name cs.1 >>= λ f. line_end BadHeader f.1 >>= λ end. Ok (record { vars = vars; clauses = cs.0; form = f.0 }))
    (count-read 0 (2 ^ 63 - 1) n rest (omega arith) c (omega arith))
    ∙ ap (λ r. r >>= λ f. line_end BadHeader f.1 >>= λ end. Ok (record { vars = vars; clauses = n; form = f.0 })) h

-- ---- the text

pub text-read : (text : List ℕ) (head : List (List ℕ)) (lines : List (List (List ℕ))) (header : Header) → text ≡ flat_map line_of (head ∷ lines) → IsPlain head → AllByRecursion IsPlain lines → header_of head ≡ Ok header
    → formula_of text ≡ behind (end_line text) header (items_of (lines_at 2 lines))
text-read text head lines header same head_plain plain h =
    let last : ℕ = end_line text in
    ap (λ t. from_lines last (content_of (numbered 1 (pieces_of t)))) same
    ∙ ap (λ ls. from_lines last (content_of ls)) (numbered-lines 1 (head ∷ lines) (head_plain, plain))
    ∙ ap (from_lines last) (content-lines 1 (head ∷ lines) (head_plain, plain))
    ∙ ap (λ r. at_line 1 r >>= λ found. behind last found (items_of (lines_at 2 lines))) (ap header_of (spaced-tokens head head_plain.words_are) ∙ h)

-- where the lines behind so many lines stand
abbrev pub past : {A : Type 0} → ℕ → List A → ℕ
past n [] = n
past n (x ∷ xs) = past (suc n) xs

next-words : (last vars line : ℕ) (c : List Literal) (rest : List Item) → next_clause last vars (words_at line (clause_words c) ++ rest) ≡ clause last vars (words_at line (clause_words c) ++ rest)
next-words last vars line [] rest = refl
next-words last vars line (l ∷ c) rest = refl

pub clauses-read : (last vars n : ℕ) → vars ≤ 2 ^ 31 - 1 → (cs : List (List Literal)) (lines : List (List (List ℕ))) → AllByRecursion (AllByRecursion (IsOver vars)) cs
    → clauses last vars (length cs) (items_of (lines_at n (map clause_words cs ++ lines))) ≡ Ok (cs, items_of (lines_at (past n cs) lines))
clauses-read last vars n v [] lines o = refl
clauses-read last vars n v (c ∷ cs) lines o =
    let rest : List Item = items_of (lines_at (suc n) (map clause_words cs ++ lines)) in
    let first : next_clause last vars (words_at n (tokens (spaced (clause_words c))) ++ rest) ≡ Ok (c, rest) =
    ap (λ ts. next_clause last vars (words_at n ts ++ rest)) (spaced-tokens (clause_words c) (clause-words vars v c o.0)) ∙ next-words last vars n c rest ∙ clause-read last vars n v c rest o.0 in
    ap (λ r. r >>= λ first. clauses last vars (length cs) first.1 >>= λ more. Ok (first.0 ∷ more.0, more.1)) first
    ∙ ap (λ r. r >>= λ more. Ok (c ∷ more.0, more.1)) (clauses-read last vars (suc n) v cs lines o.1)
