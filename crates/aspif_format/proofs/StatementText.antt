-- Each written line is read as its statement.
use Rattle.std.proofs.Common.{◌≡◌, refl, ◌∙◌, ap, ℕ, ◌^◌, ◌≤◌, ◌<◌, nat_lt, ℤ, pos, int_lt, ◌||◌, List, [], ◌∷◌, ◌++◌, map, length, Some, None, Result, Ok, Err, decimal, codes, arith}
use Rattle.std.specs.Fmt.{signed_decimal}
use Rattle.std.specs.List.{AllByRecursion}
use Rattle.std.proofs.lemmas.Bool.{or_from, le-ltb}
use Rattle.asp_base.specs.Literal.{Literal, atom_of}
use Rattle.asp_scan.specs.Tokens.{checked, with_rest, integer_of}
use Rattle.asp_scan.specs.Words.{IsWord}
use Rattle.asp_scan.specs.declared.scan.ScanFault.{ScanFault}
use Rattle.asp_scan.specs.declared.scan.ScanFault.TheVariants.{Missing}
use Rattle.asp_scan.proofs.WordText.{token_at-word}
use Rattle.ground_program.specs.Draft.{Draft, with_rule, with_required, with_edge, with_level, with_show, with_external}
use Rattle.ground_program.specs.Facts.{IsAtom, IsShort, IsPriority, FitsWeight, FitsBodyWeight, HeadFits, BodyFits, RuleFits, ConditionFits, ShowFits}
use Rattle.ground_program.specs.declared.program.Head.{Head}
use Rattle.ground_program.specs.declared.program.Head.TheVariants.{Nothing, One, Choice}
use Rattle.ground_program.specs.declared.program.Body.{Body}
use Rattle.ground_program.specs.declared.program.Body.TheVariants.{All, Sum}
use Rattle.ground_program.specs.declared.program.Rule.{Rule}
use Rattle.ground_program.specs.declared.program.Edge.{Edge}
use Rattle.ground_program.specs.declared.program.Show.{Show}
use Rattle.ground_program.specs.declared.builder.External.TheVariants as values
use Rattle.ground_program.specs.declared.reading.ReadKind.{ReadKind}
use Rattle.ground_program.specs.declared.reading.ReadKind.TheVariants as kinds
use Rattle.asp_base.specs.Faults.{◌>>=◌}
use Rattle.statement_fields.specs.Fields.{Reading, unless, lifted, number, natural, count, atom, literal, body_weight, weight, small, choice, many, counted, item, ended}
use Rattle.statement_fields.specs.FieldWords.{literal_word, literal_words, item_words, atom_words, spaced_before}
use Rattle.statement_fields.proofs.Spacing.{spaced_before-ends, map-words}
use Rattle.statement_fields.proofs.FieldText.{passes, natural-not_negative, count-read, atom-read, literal-read, weight-read, body_weight-read, small-read, name-read, many-read, counted-read_last, item-read}
use Rattle.aspif_format.specs.Read.{Statement, body_of_kind, body, head_of_kind, head, rule, level, show, external_value, external, required, edge, adds, by_number, statement}
use Rattle.aspif_format.specs.Written.{head_words, body_words}
use Rattle.aspif_format.proofs.StatementLines.{Says}

-- ---- numbers of statements, and choices

-- a word that is read as this number
abbrev pub IsNumeral : List ℕ → ℕ → Type 0
IsNumeral text n = IsWord text × (checked (integer_of text) ≡ Ok (pos n))

numeral-read : (text : List ℕ) (n : ℕ) (more : List (List ℕ)) → IsNumeral text n → number (text ++ spaced_before more) ≡ Ok (pos n, spaced_before more)
numeral-read text n more h =
    ap (λ t. lifted (elim t as (λ x. Result (ℤ × List ℕ) ScanFault) [ None ↦ Err Missing | Some token ↦ with_rest (checked (integer_of token.0)) token.1 ])) (token_at-word text (spaced_before more) h.0 (spaced_before-ends more))
    ∙ ap (λ read. lifted (with_rest read (spaced_before more))) h.1

statement-numbered : (text : List ℕ) (n : ℕ) (draft : Draft) (words : List (List ℕ)) → IsNumeral text n → n ≤ 10 → statement draft (text ++ spaced_before words) ≡ by_number n draft (spaced_before words)
statement-numbered text n draft words h small =
    let k : ℤ × List ℕ → Result Statement ReadKind = λ x. unless (int_lt x.0 (pos 0) || int_lt (pos 10) x.0) kinds.UnknownStatement (by_number (natural x.0) draft x.1) in
    ap (λ r. r >>= k) (numeral-read text n words h)
    ∙ passes (int_lt (pos n) (pos 0) || nat_lt 10 n) kinds.UnknownStatement (by_number n draft (spaced_before words))
    (or_from (int_lt (pos n) (pos 0)) (nat_lt 10 n) (natural-not_negative n) (le-ltb 10 n small))

choice-read : (most : ℕ) (text : List ℕ) (n : ℕ) (more : List (List ℕ)) → IsNumeral text n → n ≤ most → choice most (spaced_before (text ∷ more)) ≡ Ok (n, spaced_before more)
choice-read most text n more h within =
    let k : ℤ × List ℕ → Reading ℕ = λ x. unless (int_lt x.0 (pos 0) || int_lt (pos most) x.0) kinds.BadNumber (Ok (natural x.0, x.1)) in
    ap (λ r. r >>= k) (numeral-read text n more h)
    ∙ passes (int_lt (pos n) (pos 0) || nat_lt most n) kinds.BadNumber (Ok (n, spaced_before more))
    (or_from (int_lt (pos n) (pos 0)) (nat_lt most n) (natural-not_negative n) (le-ltb most n within))

few-read : (text : List ℕ) (n : ℕ) (more : List (List ℕ)) → IsNumeral text n → n ≤ 2 ^ 24 → count (spaced_before (text ∷ more)) ≡ Ok (n, spaced_before more)
few-read text n more h small =
    let k : ℤ × List ℕ → Reading ℕ = λ x. unless (int_lt x.0 (pos 0)) kinds.NegativeCount (unless (int_lt (pos (2 ^ 24)) x.0) kinds.TooManyLiterals (Ok (natural x.0, x.1))) in
    let end : Reading ℕ = Ok (n, spaced_before more) in
    ap (λ r. r >>= k) (numeral-read text n more h)
    ∙ (passes (int_lt (pos n) (pos 0)) kinds.NegativeCount (unless (nat_lt (2 ^ 24) n) kinds.TooManyLiterals end) (natural-not_negative n)
    ∙ passes (nat_lt (2 ^ 24) n) kinds.TooManyLiterals end (le-ltb (2 ^ 24) n small))

-- ---- lists that end a line

literals-read : (lits : List Literal) → ConditionFits IsAtom lits → counted literal (spaced_before (literal_words lits)) ≡ Ok (lits, [])
literals-read lits h =
    ap (λ words. counted literal (spaced_before (decimal (length lits) ∷ words))) (map-words literal_word lits)
    ∙ counted-read_last literal (λ l. literal_word l ∷ []) (λ l. IsAtom (atom_of l)) literal-read lits h.0 h.1

items-read : (field : List ℕ → Reading ℤ) (Fits : ℤ → Type 0)
    → ((w : ℤ) (more : List (List ℕ)) → Fits w → field (spaced_before (signed_decimal w ∷ more)) ≡ Ok (w, spaced_before more))
    → (items : List (Literal × ℤ)) → IsShort items → AllByRecursion (λ x. IsAtom (atom_of x.0) × Fits x.1) items → counted (item field) (spaced_before (item_words items)) ≡ Ok (items, [])
items-read field Fits read items short h =
    counted-read_last (item field) (λ x. literal_word x.0 ∷ signed_decimal x.1 ∷ []) (λ x. IsAtom (atom_of x.0) × Fits x.1) (item-read field Fits read) items short h

-- ---- rules

body-read : (b : Body) → BodyFits IsAtom b → body (spaced_before (body_words b)) ≡ Ok (b, [])
body-read (All lits) h =
    let k1 : ℕ × List ℕ → Reading Body = λ kind. body_of_kind kind.0 kind.1 in
    let k2 : List Literal × List ℕ → Reading Body = λ read. Ok (All read.0, read.1) in
    ap (λ r. r >>= k1) (choice-read 1 (codes "0") 0 (literal_words lits) (refl, refl) (omega arith)) ∙ ap (λ r. r >>= k2) (literals-read lits h)
body-read (Sum bound items) h =
    let k1 : ℕ × List ℕ → Reading Body = λ kind. body_of_kind kind.0 kind.1 in
    let k2 : ℤ × List ℕ → Reading Body = λ w. counted (item body_weight) w.1 >>= λ read. Ok (Sum w.0 read.0, read.1) in
    let k3 : List (Literal × ℤ) × List ℕ → Reading Body = λ read. Ok (Sum bound read.0, read.1) in
    ap (λ r. r >>= k1) (choice-read 1 (codes "1") 1 (signed_decimal bound ∷ item_words items) (refl, refl) (omega arith))
    ∙ (ap (λ r. r >>= k2) (weight-read bound (item_words items) h.0)
    ∙ ap (λ r. r >>= k3) (items-read body_weight FitsBodyWeight body_weight-read items h.1 h.2))

abbrev behind_kind : ℕ × List ℕ → Reading Head
behind_kind kind = count kind.1 >>= λ n. head_of_kind kind.0 n.0 n.1

abbrev one_of : ℕ × List ℕ → Reading Head
one_of a = Ok (One a.0, a.1)

abbrev choice_of : List ℕ × List ℕ → Reading Head
choice_of atoms = Ok (Choice atoms.0, atoms.1)

head-read : (x : Head) (more : List (List ℕ)) → HeadFits IsAtom x → head (spaced_before (head_words x ++ more)) ≡ Ok (x, spaced_before more)
head-read Nothing more h =
    let k : ℕ × List ℕ → Reading Head = λ n. head_of_kind 0 n.0 n.1 in
    ap (λ r. r >>= behind_kind) (choice-read 1 (codes "0") 0 (codes "0" ∷ more) (refl, refl) (omega arith)) ∙ ap (λ r. r >>= k) (few-read (codes "0") 0 more (refl, refl) (omega arith))
head-read (One a) more h =
    let k : ℕ × List ℕ → Reading Head = λ n. head_of_kind 0 n.0 n.1 in
    ap (λ r. r >>= behind_kind) (choice-read 1 (codes "0") 0 (codes "1" ∷ decimal a ∷ more) (refl, refl) (omega arith))
    ∙ (ap (λ r. r >>= k) (few-read (codes "1") 1 (decimal a ∷ more) (refl, refl) (omega arith)) ∙ ap (λ r. r >>= one_of) (atom-read a more h))
head-read (Choice as_) more h =
    let k : ℕ × List ℕ → Reading Head = λ n. head_of_kind 1 n.0 n.1 in
    ap (λ r. r >>= behind_kind) (choice-read 1 (codes "1") 1 (atom_words as_ ++ more) (refl, refl) (omega arith))
    ∙ (ap (λ r. r >>= k) (count-read (length as_) (map decimal as_ ++ more) h.0)
    ∙ (ap (λ words. many atom (length as_) (spaced_before (words ++ more)) >>= choice_of) (map-words decimal as_)
    ∙ ap (λ r. r >>= choice_of) (many-read atom (λ a. decimal a ∷ []) IsAtom atom-read as_ more h.1)))

rule-read : (x : Rule) (draft : Draft) → RuleFits IsAtom x → rule draft (spaced_before (head_words x.head ++ body_words x.body)) ≡ Ok (with_rule x draft)
rule-read x draft h =
    let k1 : Head × List ℕ → Result Draft ReadKind = λ a. body a.1 >>= λ b. ended (with_rule (record { head = a.0; body = b.0 }) draft) b.1 in
    let k2 : Body × List ℕ → Result Draft ReadKind = λ b. ended (with_rule (record { head = x.head; body = b.0 }) draft) b.1 in
    ap (λ r. r >>= k1) (head-read x.head (body_words x.body) h.0) ∙ ap (λ r. r >>= k2) (body-read x.body h.1)

-- ---- the statements, spaced_before their number

level-read : (p : ℤ) (items : List (Literal × ℤ)) (draft : Draft) → IsPriority p → IsShort items → AllByRecursion (λ x. IsAtom (atom_of x.0) × FitsWeight x.1) items
    → level draft (spaced_before (signed_decimal p ∷ item_words items)) ≡ Ok (with_level (record { priority = p; items = items }) draft)
level-read p items draft fits short h =
    let k1 : ℤ × List ℕ → Result Draft ReadKind = λ priority. counted (item weight) priority.1 >>= λ read. ended (with_level (record { priority = priority.0; items = read.0 }) draft) read.1 in
    let k2 : List (Literal × ℤ) × List ℕ → Result Draft ReadKind = λ read. ended (with_level (record { priority = p; items = read.0 }) draft) read.1 in
    ap (λ r. r >>= k1) (small-read p (item_words items) fits.0 fits.1) ∙ ap (λ r. r >>= k2) (items-read weight FitsWeight weight-read items short h)

show-read : (x : Show) (draft : Draft) → ShowFits IsAtom x → length x.name < 2 ^ 63
    → show draft (spaced_before (decimal (length x.name) ∷ x.name ∷ literal_words x.condition)) ≡ Ok (with_show x draft)
show-read x draft h short =
    let k1 : List ℕ × List ℕ → Result Draft ReadKind = λ text. counted literal text.1 >>= λ condition. ended (with_show (record { name = text.0; condition = condition.0 }) draft) condition.1 in
    let k2 : List Literal × List ℕ → Result Draft ReadKind = λ condition. ended (with_show (record { name = x.name; condition = condition.0 }) draft) condition.1 in
    ap (λ r. r >>= k1) (name-read x.name (literal_words x.condition) short) ∙ ap (λ r. r >>= k2) (literals-read x.condition h.1)

external-read : (a : ℕ) (draft : Draft) → IsAtom a → external draft (spaced_before (decimal a ∷ codes "2" ∷ [])) ≡ Ok (with_external a values.False draft)
external-read a draft h =
    let k1 : ℕ × List ℕ → Result Draft ReadKind = λ x. choice 3 x.1 >>= λ value. ended (with_external x.0 (external_value value.0) draft) value.1 in
    let k2 : ℕ × List ℕ → Result Draft ReadKind = λ value. ended (with_external a (external_value value.0) draft) value.1 in
    ap (λ r. r >>= k1) (atom-read a (codes "2" ∷ []) h) ∙ ap (λ r. r >>= k2) (choice-read 3 (codes "2") 2 [] (refl, refl) (omega arith))

required-read : (lits : List Literal) (draft : Draft) → ConditionFits IsAtom lits → required draft (spaced_before (literal_words lits)) ≡ Ok (with_required lits draft)
required-read lits draft h =
    let k : List Literal × List ℕ → Result Draft ReadKind = λ read. ended (with_required read.0 draft) read.1 in
    ap (λ r. r >>= k) (literals-read lits h)

edge-read : (x : Edge) (draft : Draft) → IsPriority x.from → IsPriority x.to → ConditionFits IsAtom x.condition
    → edge draft (spaced_before (signed_decimal x.from ∷ signed_decimal x.to ∷ literal_words x.condition)) ≡ Ok (with_edge x draft)
edge-read x draft from to h =
    let k1 : ℤ × List ℕ → Result Draft ReadKind = λ u. small u.1 >>= λ v. counted literal v.1 >>= λ read. ended (with_edge (record { from = u.0; to = v.0; condition = read.0 }) draft) read.1 in
    let k2 : ℤ × List ℕ → Result Draft ReadKind = λ v. counted literal v.1 >>= λ read. ended (with_edge (record { from = x.from; to = v.0; condition = read.0 }) draft) read.1 in
    let k3 : List Literal × List ℕ → Result Draft ReadKind = λ read. ended (with_edge (record { from = x.from; to = x.to; condition = read.0 }) draft) read.1 in
    ap (λ r. r >>= k1) (small-read x.from (signed_decimal x.to ∷ literal_words x.condition) from.0 from.1)
    ∙ (ap (λ r. r >>= k2) (small-read x.to (literal_words x.condition) to.0 to.1) ∙ ap (λ r. r >>= k3) (literals-read x.condition h))

-- ---- with their number

pub rule-says : (x : Rule) → RuleFits IsAtom x → Says (codes "1") (head_words x.head ++ body_words x.body) (with_rule x)
rule-says x h draft = statement-numbered (codes "1") 1 draft (head_words x.head ++ body_words x.body) (refl, refl) (omega arith) ∙ ap adds (rule-read x draft h)

pub level-says : (p : ℤ) (items : List (Literal × ℤ)) → IsPriority p → IsShort items → AllByRecursion (λ x. IsAtom (atom_of x.0) × FitsWeight x.1) items
    → Says (codes "2") (signed_decimal p ∷ item_words items) (with_level (record { priority = p; items = items }))
level-says p items fits short h draft = statement-numbered (codes "2") 2 draft (signed_decimal p ∷ item_words items) (refl, refl) (omega arith) ∙ ap adds (level-read p items draft fits short h)

pub show-says : (x : Show) → ShowFits IsAtom x → length x.name < 2 ^ 63 → Says (codes "4") (decimal (length x.name) ∷ x.name ∷ literal_words x.condition) (with_show x)
show-says x h short draft = statement-numbered (codes "4") 4 draft (decimal (length x.name) ∷ x.name ∷ literal_words x.condition) (refl, refl) (omega arith) ∙ ap adds (show-read x draft h short)

pub external-says : (a : ℕ) → IsAtom a → Says (codes "5") (decimal a ∷ codes "2" ∷ []) (with_external a values.False)
external-says a h draft = statement-numbered (codes "5") 5 draft (decimal a ∷ codes "2" ∷ []) (refl, refl) (omega arith) ∙ ap adds (external-read a draft h)

pub required-says : (lits : List Literal) → ConditionFits IsAtom lits → Says (codes "6") (literal_words lits) (with_required lits)
required-says lits h draft = statement-numbered (codes "6") 6 draft (literal_words lits) (refl, refl) (omega arith) ∙ ap adds (required-read lits draft h)

pub edge-says : (x : Edge) → IsPriority x.from → IsPriority x.to → ConditionFits IsAtom x.condition
    → Says (codes "8") (signed_decimal x.from ∷ signed_decimal x.to ∷ literal_words x.condition) (with_edge x)
edge-says x from to h draft =
    statement-numbered (codes "8") 8 draft (signed_decimal x.from ∷ signed_decimal x.to ∷ literal_words x.condition) (refl, refl) (omega arith) ∙ ap adds (edge-read x draft from to h)
