-- Each written line is a line, and is read as its entry.
use Rattle.std.proofs.Common.{◌≡◌, refl, sym, ◌∙◌, ap, subst, ℕ, ◌+◌, ◌^◌, ◌≤◌, ℤ, pos, true, cond, not, List, [], ◌∷◌, ◌++◌, map, filter, length, append-nil, Result, Ok, Err, decimal, codes, arith}
use Rattle.std.specs.Fmt.{signed_decimal}
use Rattle.std.specs.List.{AllByRecursion}
use Rattle.std.specs.Ordering.{int_eq}
use Rattle.std.proofs.lemmas.Bool.{and_parts, and_from, cond-false, true≢false}
use Rattle.std.proofs.lemmas.List.Filters.{length-filter_both}
use Rattle.asp_base.specs.Literal.{Literal, Pos, Neg, atom_of, is_positive}
use Rattle.asp_base.proofs.Each.{each-append, each-map, each-weaker}
use Rattle.asp_scan.specs.Lines.{is_blank}
use Rattle.asp_scan.specs.Tokens.{skip_blanks}
use Rattle.asp_scan.specs.Words.{line_of, ends_with_return, IsLine, IsWord}
use Rattle.asp_scan.proofs.LineText.{from_not-true, IsLine-append}
use Rattle.asp_scan.proofs.NoFeed.{stays-from_feeds}
use Rattle.asp_scan.proofs.NumberText.{fits_i64-small, natural-is_word}
use Rattle.asp_scan.proofs.WordText.{spaced-line, word-stays, IsWord-bytes}
use Rattle.ground_program.specs.Draft.{Draft, with_rule, with_required, with_level, with_show}
use Rattle.ground_program.specs.Facts.{IsAtom, IsShort, FitsWeight, FitsBodyWeight}
use Rattle.ground_program.specs.declared.program.Head.{Head}
use Rattle.ground_program.specs.declared.program.Head.TheVariants.{Nothing, One, Choice}
use Rattle.ground_program.specs.declared.program.Body.{Body}
use Rattle.ground_program.specs.declared.program.Body.TheVariants.{All, Sum}
use Rattle.ground_program.specs.declared.program.Rule.{Rule}
use Rattle.ground_program.specs.declared.reading.ReadKind.{ReadKind}
use Rattle.ground_program.specs.declared.reading.ReadKind.TheVariants as kinds
use Rattle.asp_base.specs.Faults.{◌>>=◌}
use Rattle.statement_fields.specs.Fields.{atom, many, ended}
use Rattle.statement_fields.specs.FieldWords.{atom_words, spaced_before}
use Rattle.asp_scan.specs.Feeds.{HasNoFeed}
use Rattle.statement_fields.proofs.FieldLines.{AreWords, atom-is_word, weight-is_word, body_weight-is_word, count-is_word}
use Rattle.statement_fields.proofs.FieldText.{not_zero, number-read, count-read, atom-read}
use Rattle.smodels_format.specs.Parts.{show_of}
use Rattle.smodels_format.specs.Read.{Entry, Adds, Ends, plain_body, weight_body, ruled, basic_rule, choice_rule, weight_rule, minimize, adds, rule_entry, unless_zero, symbol_name, symbol, symbol_entry, required, required_entry}
use Rattle.smodels_format.specs.Written.{count_words, plain_words, literals_of, item_words, body_words, rule_words, rule_line, sum_line, symbol_line, atom_line}
use Rattle.smodels_format.specs.Writable.{is_writable_name}
use Rattle.smodels_format.proofs.TextParts.{ordered, LiteralsInOrder, ItemsInOrder, HasLine, SymbolFits}
use Rattle.smodels_format.proofs.TextFields.{atoms-read, plain_body-read, items-read, weight_body-read}
use Rattle.smodels_format.proofs.TextSteps.{EntryAdds, entry-adds}

-- ---- words

atoms-are_words : (xs : List ℕ) → AllByRecursion IsAtom xs → AreWords (map decimal xs)
atoms-are_words xs h = each-map IsWord decimal xs (each-weaker IsAtom (λ a. IsWord (decimal a)) atom-is_word xs h)

weights-are_words : (xs : List (Literal × ℤ)) → AllByRecursion (λ item. FitsBodyWeight item.1) xs → AreWords (map (λ item. signed_decimal item.1) xs)
weights-are_words xs h =
    each-map IsWord (λ item. signed_decimal item.1) xs
    (each-weaker (λ item. FitsBodyWeight item.1) (λ item. IsWord (signed_decimal item.1)) (λ item k. body_weight-is_word item.1 k) xs h)

ordered-fit : (negs poss : List ℕ) → AllByRecursion IsAtom negs → AllByRecursion IsAtom poss → AllByRecursion (λ l. IsAtom (atom_of l)) (ordered negs poss)
ordered-fit negs poss h k =
    each-append (λ l. IsAtom (atom_of l)) (map (λ a. Neg a) negs) (map (λ a. Pos a) poss)
    (each-map (λ l. IsAtom (atom_of l)) (λ a. Neg a) negs h) (each-map (λ l. IsAtom (atom_of l)) (λ a. Pos a) poss k)

count-are_words : (lits : List Literal) → IsShort lits → AreWords (count_words lits)
count-are_words lits h =
    let short : length lits ≤ 2 ^ 24 = h in
    let parts : length (filter is_positive lits) + length (filter (λ l. not (is_positive l)) lits) ≡ length lits = length-filter_both is_positive (λ l. not (is_positive l)) (λ l. refl) lits in
    (count-is_word lits h, (natural-is_word (length (filter (λ l. not (is_positive l)) lits)) (omega arith), tt))

literals-are_words : (lits : List Literal) → LiteralsInOrder lits → AreWords (plain_words lits)
literals-are_words lits h =
    let fit : AllByRecursion (λ l. IsAtom (atom_of l)) lits =
    subst (λ ls. AllByRecursion (λ l. IsAtom (atom_of l)) ls) (sym h.is) (ordered-fit h.negs h.poss h.negs_fit h.poss_fit) in
    each-map IsWord (λ l. decimal (atom_of l)) lits
    (each-weaker (λ l. IsAtom (atom_of l)) (λ l. IsWord (decimal (atom_of l))) (λ l k. atom-is_word (atom_of l) k) lits fit)

body-are_words : (lits : List Literal) → LiteralsInOrder lits → AreWords (body_words lits)
body-are_words lits h = each-append IsWord (count_words lits) (plain_words lits) (count-are_words lits h.short) (literals-are_words lits h)

items-are_words : (xs : List (Literal × ℤ)) → ItemsInOrder xs → AreWords (item_words xs)
items-are_words xs h =
    let lits : List Literal = literals_of xs in
    let weights : List (List ℕ) = map (λ item. signed_decimal item.1) xs in
    each-append IsWord (count_words lits) (plain_words lits ++ weights) (count-are_words lits h.literals.short)
    (each-append IsWord (plain_words lits) weights (literals-are_words lits h.literals) (weights-are_words xs h.weights))

-- ---- rules, by the number of their type

module _ (draft : Draft) (first : List ℕ) (words : List (List ℕ)) where
  basic : rule_entry draft (codes "1" ++ spaced_before (first ∷ words)) ≡ adds (basic_rule draft (spaced_before (first ∷ words)))
  basic = refl

  choice : rule_entry draft (codes "3" ++ spaced_before (first ∷ words)) ≡ adds (choice_rule draft (spaced_before (first ∷ words)))
  choice = refl

  weighing : rule_entry draft (codes "5" ++ spaced_before (first ∷ words)) ≡ adds (weight_rule draft (spaced_before (first ∷ words)))
  weighing = refl

  minimizing : rule_entry draft (codes "6" ++ spaced_before (first ∷ words)) ≡ adds (minimize draft (spaced_before (first ∷ words)))
  minimizing = refl

abbrev with_head : Draft → Head → Body × List ℕ → Result Draft ReadKind
with_head draft head b = ended (with_rule (record { head = head; body = b.0 }) draft) b.1

basic-read : (a : ℕ) (lits : List Literal) (draft : Draft) → IsAtom a → LiteralsInOrder lits
    → basic_rule draft (spaced_before (decimal a ∷ body_words lits)) ≡ Ok (with_rule (record { head = One a; body = All lits }) draft)
basic-read a lits draft h k =
    ap (λ r. r >>= λ a. ruled draft (One a.0) (plain_body a.1)) (atom-read a (body_words lits) h) ∙ ap (λ r. r >>= with_head draft (One a)) (plain_body-read lits k)

weight-read : (a : ℕ) (bound : ℤ) (xs : List (Literal × ℤ)) (draft : Draft) → IsAtom a → FitsWeight bound → ItemsInOrder xs
    → weight_rule draft (spaced_before (decimal a ∷ signed_decimal bound ∷ item_words xs)) ≡ Ok (with_rule (record { head = One a; body = Sum bound xs }) draft)
weight-read a bound xs draft h fits k =
    ap (λ r. r >>= λ a. ruled draft (One a.0) (weight_body a.1)) (atom-read a (signed_decimal bound ∷ item_words xs) h)
    ∙ ap (λ r. r >>= with_head draft (One a)) (weight_body-read bound xs fits k)

choice-read : (atoms : List ℕ) (lits : List Literal) (draft : Draft) → IsShort atoms → AllByRecursion IsAtom atoms → LiteralsInOrder lits
    → choice_rule draft (spaced_before (atom_words atoms ++ body_words lits)) ≡ Ok (with_rule (record { head = Choice atoms; body = All lits }) draft)
choice-read atoms lits draft short h k =
    let k1 : ℕ × List ℕ → Result Draft ReadKind = λ n. many atom n.0 n.1 >>= λ heads. ruled draft (Choice heads.0) (plain_body heads.1) in
    let k2 : List ℕ × List ℕ → Result Draft ReadKind = λ heads. ruled draft (Choice heads.0) (plain_body heads.1) in
    ap (λ r. r >>= k1) (count-read (length atoms) (map decimal atoms ++ body_words lits) short)
    ∙ (ap (λ r. r >>= k2) (atoms-read atoms (body_words lits) h)
    ∙ ap (λ r. r >>= with_head draft (Choice atoms)) (plain_body-read lits k))

-- a line of words
words-add : (entry : Draft → List ℕ → Result Entry ReadKind) (first : List ℕ) (words : List (List ℕ)) (step : Draft → Draft) → IsWord first → AreWords words
    → ((draft : Draft) → entry draft (first ++ spaced_before words) ≡ Ok (Adds (step draft))) → EntryAdds entry (line_of (first ∷ words)) step
words-add entry first words step word h says = entry-adds entry first words step word (spaced-line (first ∷ words) (word, h)) says

rule-adds_by : (head : Head) (body : Body) → HasLine head body → EntryAdds rule_entry (line_of (rule_words head body)) (with_rule (record { head = head; body = body }))
rule-adds_by Nothing body h = absurd h
rule-adds_by (One a) (All lits) h =
    words-add rule_entry (codes "1") (decimal a ∷ body_words lits) _ refl (atom-is_word a h.0, body-are_words lits h.1)
    (λ draft. basic draft (decimal a) (body_words lits) ∙ ap adds (basic-read a lits draft h.0 h.1))
rule-adds_by (One a) (Sum bound xs) h =
    words-add rule_entry (codes "5") (decimal a ∷ signed_decimal bound ∷ item_words xs) _ refl (atom-is_word a h.0, (weight-is_word bound h.1, items-are_words xs h.2))
    (λ draft. weighing draft (decimal a) (signed_decimal bound ∷ item_words xs) ∙ ap adds (weight-read a bound xs draft h.0 h.1 h.2))
rule-adds_by (Choice atoms) (All lits) h =
    words-add rule_entry (codes "3") (atom_words atoms ++ body_words lits) _ refl
    (each-append IsWord (atom_words atoms) (body_words lits) (count-is_word atoms h.0, atoms-are_words atoms h.1) (body-are_words lits h.2))
    (λ draft. choice draft (decimal (length atoms)) (map decimal atoms ++ body_words lits) ∙ ap adds (choice-read atoms lits draft h.0 h.1 h.2))
rule-adds_by (Choice atoms) (Sum bound xs) h = absurd h

pub rule-adds : (rule : Rule) → HasLine rule.head rule.body → EntryAdds rule_entry (rule_line rule) (with_rule rule)
rule-adds rule h = rule-adds_by rule.head rule.body h

-- ---- minimize statements

-- at the priority that the statement has behind those that were read
abbrev pub with_sum : List (Literal × ℤ) → Draft → Draft
with_sum xs draft = with_level (record { priority = pos (length draft.levels); items = xs }) draft

minimize-read : (xs : List (Literal × ℤ)) (draft : Draft) → ItemsInOrder xs → minimize draft (spaced_before (codes "0" ∷ item_words xs)) ≡ Ok (with_sum xs draft)
minimize-read xs draft h =
    let k : List (Literal × ℤ) × List ℕ → Result Draft ReadKind = λ found. ended (with_level (record { priority = pos (length draft.levels); items = found.0 }) draft) found.1 in
    ap (λ r. r >>= k) (items-read xs h)

pub sum-adds : (xs : List (Literal × ℤ)) → ItemsInOrder xs → EntryAdds rule_entry (sum_line xs) (with_sum xs)
sum-adds xs h =
    words-add rule_entry (codes "6") (codes "0" ∷ item_words xs) (with_sum xs) refl (refl, items-are_words xs h)
    (λ draft. minimizing draft (codes "0") (item_words xs) ∙ ap adds (minimize-read xs draft h))

-- ---- entries that begin with an atom

-- an atom is not the 0 that ends a part
unless_zero-read : (a : ℕ) (more : List (List ℕ)) (read : Result Draft ReadKind) → IsAtom a → unless_zero (decimal a ++ spaced_before more) read ≡ adds read
unless_zero-read a more read h =
    let most : a ≤ 2 ^ 30 = h.1 in
    let k : ℤ × List ℕ → Result Entry ReadKind = λ n. cond (int_eq n.0 (pos 0)) (ended Ends n.1) (adds read) in
    ap (λ r. r >>= k) (number-read (pos a) more (fits_i64-small (pos a) (omega arith)))
    ∙ cond-false (int_eq (pos a) (pos 0)) (ended Ends (spaced_before more)) (adds read) (not_zero (pos a) h.0)

required-read : (sign : ℕ → Literal) (a : ℕ) (draft : Draft) → IsAtom a → required sign draft (decimal a ++ []) ≡ Ok (with_required (sign a ∷ []) draft)
required-read sign a draft h = ap (λ r. r >>= λ a. ended (with_required (sign a.0 ∷ []) draft) a.1) (atom-read a [] h)

-- an atom of this sign that is required
abbrev pub with_sign : (ℕ → Literal) → ℕ → Draft → Draft
with_sign sign a draft = with_required (sign a ∷ []) draft

pub required-adds : (sign : ℕ → Literal) (a : ℕ) → IsAtom a → EntryAdds (required_entry sign) (atom_line a) (with_sign sign a)
required-adds sign a h =
    words-add (required_entry sign) (decimal a) [] (with_sign sign a) (atom-is_word a h) tt
    (λ draft. unless_zero-read a [] (required sign draft (decimal a ++ [])) h ∙ ap adds (required-read sign a draft h))

-- ---- names

name-line : (name : List ℕ) → HasNoFeed name → is_writable_name name ≡ true → IsLine (32 ∷ name)
name-line [] feeds h = absurd (true≢false (sym h))
name-line (byte ∷ bytes) feeds h =
    let parts : (not (is_blank byte) ≡ true) × (not (ends_with_return (byte ∷ bytes)) ≡ true) = and_parts _ _ h in
    IsLine-append (32 ∷ []) byte bytes refl (and_from _ _ (stays-from_feeds (byte ∷ bytes) feeds) parts.1)

abbrev name_from : List ℕ → Result (List ℕ) ReadKind
name_from skipped = elim skipped as (λ x. Result (List ℕ) ReadKind) [ [] ↦ Err kinds.BadName | first ∷ rest ↦ Ok (first ∷ rest) ]

name-read : (name : List ℕ) → is_writable_name name ≡ true → symbol_name (32 ∷ name) ≡ Ok name
name-read [] h = absurd (true≢false (sym h))
name-read (byte ∷ bytes) h =
    let parts : (not (is_blank byte) ≡ true) × (not (ends_with_return (byte ∷ bytes)) ≡ true) = and_parts _ _ h in
    ap name_from (cond-false (is_blank byte) (skip_blanks bytes) (byte ∷ bytes) (from_not-true (is_blank byte) parts.0))

abbrev pub with_symbol : ℕ × List ℕ → Draft → Draft
with_symbol x draft = with_show (show_of x) draft

symbol-read : (x : ℕ × List ℕ) (draft : Draft) → SymbolFits x → symbol draft (decimal x.0 ++ spaced_before (x.1 ∷ [])) ≡ Ok (with_symbol x draft)
symbol-read x draft h =
    let k1 : ℕ × List ℕ → Result Draft ReadKind = λ a. symbol_name a.1 >>= λ name. Ok (with_show (record { name = name; condition = Pos a.0 ∷ [] }) draft) in
    let k2 : List ℕ → Result Draft ReadKind = λ name. Ok (with_show (record { name = name; condition = Pos x.0 ∷ [] }) draft) in
    ap (λ r. r >>= k1) (atom-read x.0 (x.1 ∷ []) h.atom)
    ∙ (ap (λ name. symbol_name (32 ∷ name) >>= k2) (append-nil x.1)
    ∙ ap (λ r. r >>= k2) (name-read x.1 h.name))

pub symbol-adds : (x : ℕ × List ℕ) → SymbolFits x → EntryAdds symbol_entry (symbol_line x) (with_symbol x)
symbol-adds x h =
    let word : IsWord (decimal x.0) = atom-is_word x.0 h.atom in
    entry-adds symbol_entry (decimal x.0) (x.1 ∷ []) (with_symbol x) word
    (IsLine-append (decimal x.0) 32 x.1 (word-stays (decimal x.0) (IsWord-bytes (decimal x.0) word)) (name-line x.1 h.feeds h.name))
    (λ draft. unless_zero-read x.0 (x.1 ∷ []) (symbol draft (decimal x.0 ++ spaced_before (x.1 ∷ []))) h.atom
    ∙ ap adds (symbol-read x draft h))
