-- Written fields are read back. Fields are written as words, each spaced_before a space.
use Rattle.std.proofs.Common.{◌≡◌, refl, sym, ◌∙◌, ap, ℕ, zero, suc, ◌-◌, ◌^◌, ◌≤◌, ◌<◌, nat_lt, nat_le, ℤ, pos, negsuc, neg_ℤ, nat_abs, ◌≤ℤ◌, ◌<ℤ◌, int_lt, Bool, true, false, cond, not, List, [], ◌∷◌, ◌++◌, length, append_assoc, Some, None, Result, Ok, Err, decimal, arith}
use Rattle.std.specs.Fmt.{signed_decimal}
use Rattle.std.specs.List.{AllByRecursion, list_all, flat_map}
use Rattle.std.specs.Ordering.{int_eq}
use Rattle.std.specs.Str.{bytes_eq}
use Rattle.std.proofs.lemmas.Bool.{and_from, cond-true, cond-false, le-ltb, lt-ltb, le-leb}
use Rattle.std.proofs.lemmas.Bool.Decides.{Decides-int_eq}
use Rattle.std.proofs.lemmas.Int.{ints}
use Rattle.std.proofs.lemmas.List.{append-nil}
use Rattle.std.proofs.lemmas.Slice.Eq.{bytes_eq-Decides}
use Rattle.asp_base.specs.Literal.{Literal, Pos, Neg, atom_of, integer_of, literal_of}
use Rattle.asp_base.specs.Faults.{◌>>=◌}
use Rattle.asp_base.proofs.LiteralLaws.{literal_of-integer_of}
use Rattle.asp_scan.specs.Tokens.{bytes_from, fits_i64}
use Rattle.asp_scan.specs.Words.{stays_in_line, is_line, IsLine, IsWord, ends_token}
use Rattle.asp_scan.proofs.LineText.{IsLine-append}
use Rattle.asp_scan.proofs.NumberText.{number_at-spaced, fits_i64-pos, fits_i64-small}
use Rattle.asp_scan.proofs.WordText.{token_at-word, bytes_from-name, word-stays, IsWord-bytes, word-line}
use Rattle.ground_program.specs.Facts.{IsAtom, IsShort, FitsWeight, FitsBodyWeight}
use Rattle.ground_program.specs.declared.reading.ReadKind.{ReadKind}
use Rattle.ground_program.specs.declared.reading.ReadKind.TheVariants as kinds
use Rattle.statement_fields.specs.FieldWords.{spaced_before}
use Rattle.statement_fields.specs.Fields.{Reading, unless, lifted, number, above, natural, count, name_length, atom, literal, body_weight, weight, fits_i32, small, many, counted, item, name, word}
use Rattle.statement_fields.proofs.Spacing.{spaced_before-ends}

-- ---- lines of words

-- bytes of any kind but the line feed, with more spaced_before them
pub spaced_before-line_more : (bytes next : List ℕ) (words : List (List ℕ)) → list_all stays_in_line bytes ≡ true → IsLine (spaced_before (next ∷ words)) → IsLine (spaced_before (bytes ∷ next ∷ words))
spaced_before-line_more bytes next words stays line = IsLine-append (32 ∷ bytes) 32 (next ++ spaced_before words) stays line

last-line : (word : List ℕ) → IsWord word → IsLine (32 ∷ (word ++ []))
last-line [] w = refl
last-line (byte ∷ bytes) w = IsLine-append (32 ∷ []) byte (bytes ++ []) refl (ap is_line (append-nil (byte ∷ bytes)) ∙ word-line (byte ∷ bytes) (IsWord-bytes (byte ∷ bytes) w))

pub spaced_before-line : (word : List ℕ) (words : List (List ℕ)) → AllByRecursion IsWord (word ∷ words) → IsLine (spaced_before (word ∷ words))
spaced_before-line word [] h = last-line word h.0
spaced_before-line word (next ∷ words) h = spaced_before-line_more word next words (word-stays word (IsWord-bytes word h.0)) (spaced_before-line next words h.1)

-- ---- words and numbers

-- at the front of a line
pub word-read : (text : List ℕ) (more : List (List ℕ)) → IsWord text → word text (text ++ spaced_before more) ≡ Ok (spaced_before more)
word-read text more h =
    ap (λ t. elim t as (λ x. Result (List ℕ) ReadKind) [ None ↦ Err kinds.BadHeader | Some token ↦ cond (bytes_eq token.0 text) (Ok token.1) (Err kinds.BadHeader) ])
    (token_at-word text (spaced_before more) h (spaced_before-ends more))
    ∙ cond-true (bytes_eq text text) (Ok (spaced_before more)) (Err kinds.BadHeader) ((bytes_eq-Decides text text).1 refl)

pub number-read : (z : ℤ) (more : List (List ℕ)) → fits_i64 z ≡ true → number (spaced_before (signed_decimal z ∷ more)) ≡ Ok (z, spaced_before more)
number-read z more fits = ap lifted (number_at-spaced z (spaced_before more) fits (spaced_before-ends more))

-- ---- fields of one number

pub passes : {A : Type 0} (fails : Bool) (kind : ReadKind) (rest : Result A ReadKind) → fails ≡ false → unless fails kind rest ≡ rest
passes fails kind rest e = cond-false fails (Err kind) rest e

pub natural-not_negative : (n : ℕ) → int_lt (pos n) (pos 0) ≡ false
natural-not_negative n = le-ltb n 0 (omega arith)

pub not_zero : (z : ℤ) → 0 < nat_abs z → int_eq z (pos 0) ≡ false
not_zero z some = by (int_eq z (pos 0)) refl
  where
    by : (b : Bool) → int_eq z (pos 0) ≡ b → b ≡ false
    by true e = absurd (let k : nat_abs z ≡ 0 = ap nat_abs ((Decides-int_eq z (pos 0)).0 e) in omega arith)
    by false e = refl

pub not_above : (most : ℕ) (z : ℤ) → nat_abs z ≤ most → above most z ≡ false
not_above most z h = le-ltb most (nat_abs z) h

pub count-read : (n : ℕ) (more : List (List ℕ)) → n ≤ 2 ^ 24 → count (spaced_before (decimal n ∷ more)) ≡ Ok (n, spaced_before more)
count-read n more h =
    let k : ℤ × List ℕ → Reading ℕ = λ x. unless (int_lt x.0 (pos 0)) kinds.NegativeCount (unless (int_lt (pos (2 ^ 24)) x.0) kinds.TooManyLiterals (Ok (natural x.0, x.1))) in
    let end : Reading ℕ = Ok (n, spaced_before more) in
    ap (λ r. r >>= k) (number-read (pos n) more (fits_i64-small (pos n) (omega arith)))
    ∙ (passes (int_lt (pos n) (pos 0)) kinds.NegativeCount (unless (nat_lt (2 ^ 24) n) kinds.TooManyLiterals end) (natural-not_negative n)
    ∙ passes (nat_lt (2 ^ 24) n) kinds.TooManyLiterals end (le-ltb (2 ^ 24) n h))

pub name_length-read : (n : ℕ) (more : List (List ℕ)) → n < 2 ^ 63 → name_length (spaced_before (decimal n ∷ more)) ≡ Ok (n, spaced_before more)
name_length-read n more h =
    let k : ℤ × List ℕ → Reading ℕ = λ x. unless (int_lt x.0 (pos 0)) kinds.NegativeCount (Ok (natural x.0, x.1)) in
    let end : Reading ℕ = Ok (n, spaced_before more) in
    ap (λ r. r >>= k) (number-read (pos n) more (fits_i64-pos n h)) ∙ passes (int_lt (pos n) (pos 0)) kinds.NegativeCount end (natural-not_negative n)

pub atom-read : (a : ℕ) (more : List (List ℕ)) → IsAtom a → atom (spaced_before (decimal a ∷ more)) ≡ Ok (a, spaced_before more)
atom-read a more h =
    let k : ℤ × List ℕ → Reading ℕ = λ x. unless (int_eq x.0 (pos 0)) kinds.ZeroAtom (unless (int_lt x.0 (pos 0)) kinds.BadNumber (unless (above (2 ^ 30) x.0) kinds.AtomTooLarge (Ok (natural x.0, x.1)))) in
    let end : Reading ℕ = Ok (a, spaced_before more) in
    let most : a ≤ 2 ^ 30 = h.1 in
    ap (λ r. r >>= k) (number-read (pos a) more (fits_i64-small (pos a) (omega arith)))
    ∙ (passes (int_eq (pos a) (pos 0)) kinds.ZeroAtom (unless (int_lt (pos a) (pos 0)) kinds.BadNumber (unless (above (2 ^ 30) (pos a)) kinds.AtomTooLarge end)) (not_zero (pos a) h.0)
    ∙ (passes (int_lt (pos a) (pos 0)) kinds.BadNumber (unless (above (2 ^ 30) (pos a)) kinds.AtomTooLarge end) (natural-not_negative a)
    ∙ passes (above (2 ^ 30) (pos a)) kinds.AtomTooLarge end (not_above (2 ^ 30) (pos a) most)))

-- ---- literals and weights

pub literal-size : (l : Literal) → nat_abs (integer_of l) ≡ atom_of l
literal-size (Pos a) = refl
literal-size (Neg zero) = refl
literal-size (Neg (suc n)) = refl

pub literal-read : (l : Literal) (more : List (List ℕ)) → IsAtom (atom_of l) → literal (spaced_before (signed_decimal (integer_of l) ∷ more)) ≡ Ok (l, spaced_before more)
literal-read l more h =
    let k : ℤ × List ℕ → Reading Literal = λ x. unless (int_eq x.0 (pos 0)) kinds.ZeroAtom (unless (above (2 ^ 30) x.0) kinds.AtomTooLarge (Ok (literal_of x.0, x.1))) in
    let z : ℤ = integer_of l in
    let end : Reading Literal = Ok (literal_of z, spaced_before more) in
    let size : nat_abs z ≡ atom_of l = literal-size l in
    let some : 0 < atom_of l = h.0 in
    let most : atom_of l ≤ 2 ^ 30 = h.1 in
    ap (λ r. r >>= k) (number-read z more (fits_i64-small z (omega arith)))
    ∙ (passes (int_eq z (pos 0)) kinds.ZeroAtom (unless (above (2 ^ 30) z) kinds.AtomTooLarge end) (not_zero z (omega arith))
    ∙ (passes (above (2 ^ 30) z) kinds.AtomTooLarge end (not_above (2 ^ 30) z (omega arith)) ∙ ap (λ x. Ok (x, spaced_before more)) (literal_of-integer_of l h.0)))

pub weight-size : (w : ℤ) → FitsWeight w → nat_abs w ≤ 2 ^ 31 - 1
weight-size (pos n) h = omega (arith, ints, h.1)
weight-size (negsuc n) h = omega (arith, ints, h.0)

pub weight-read : (w : ℤ) (more : List (List ℕ)) → FitsWeight w → weight (spaced_before (signed_decimal w ∷ more)) ≡ Ok (w, spaced_before more)
weight-read w more h =
    let k : ℤ × List ℕ → Reading ℤ = λ x. unless (above (2 ^ 31 - 1) x.0) kinds.WeightTooLarge (Ok x) in
    let size : nat_abs w ≤ 2 ^ 31 - 1 = weight-size w h in
    ap (λ r. r >>= k) (number-read w more (fits_i64-small w (omega arith))) ∙ passes (above (2 ^ 31 - 1) w) kinds.WeightTooLarge (Ok (w, spaced_before more)) (not_above (2 ^ 31 - 1) w size)

pub body_weight-read : (w : ℤ) (more : List (List ℕ)) → FitsBodyWeight w → body_weight (spaced_before (signed_decimal w ∷ more)) ≡ Ok (w, spaced_before more)
body_weight-read (pos n) more h =
    let k : ℤ × List ℕ → Reading ℤ = λ x. unless (int_lt x.0 (pos 0)) kinds.NegativeWeight (unless (above (2 ^ 31 - 1) x.0) kinds.WeightTooLarge (Ok x)) in
    let most : n ≤ 2 ^ 31 - 1 = omega (arith, ints, h.1) in
    let end : Reading ℤ = Ok (pos n, spaced_before more) in
    ap (λ r. r >>= k) (number-read (pos n) more (fits_i64-small (pos n) (omega arith)))
    ∙ (passes (int_lt (pos n) (pos 0)) kinds.NegativeWeight (unless (above (2 ^ 31 - 1) (pos n)) kinds.WeightTooLarge end) (natural-not_negative n)
    ∙ passes (above (2 ^ 31 - 1) (pos n)) kinds.WeightTooLarge end (not_above (2 ^ 31 - 1) (pos n) most))
body_weight-read (negsuc n) more h = absurd (omega (arith, ints, h.0))

fits_i32-from : (z : ℤ) → neg_ℤ (pos (2 ^ 31)) ≤ℤ z → z <ℤ pos (2 ^ 31) → fits_i32 z ≡ true
fits_i32-from (pos n) low high = lt-ltb n (2 ^ 31) (omega (arith, ints, high))
fits_i32-from (negsuc n) low high = and_from (nat_le n (2 ^ 31 - 1)) true (le-leb n (2 ^ 31 - 1) (omega (arith, ints, low))) refl

pub small-size : (z : ℤ) → neg_ℤ (pos (2 ^ 31)) ≤ℤ z → z <ℤ pos (2 ^ 31) → nat_abs z ≤ 2 ^ 31
small-size (pos n) low high = omega (arith, ints, high)
small-size (negsuc n) low high = omega (arith, ints, low)

-- a priority or a node
pub small-read : (z : ℤ) (more : List (List ℕ)) → neg_ℤ (pos (2 ^ 31)) ≤ℤ z → z <ℤ pos (2 ^ 31) → small (spaced_before (signed_decimal z ∷ more)) ≡ Ok (z, spaced_before more)
small-read z more low high =
    let k : ℤ × List ℕ → Reading ℤ = λ x. unless (not (fits_i32 x.0)) kinds.BadNumber (Ok x) in
    ap (λ r. r >>= k) (number-read z more (fits_i64-small z (small-size z low high)))
    ∙ passes (not (fits_i32 z)) kinds.BadNumber (Ok (z, spaced_before more)) (ap not (fits_i32-from z low high))

-- ---- names

-- any bytes spaced_before their number, as long as it fits
pub name-read : (text : List ℕ) (more : List (List ℕ)) → length text < 2 ^ 63 → name (spaced_before (decimal (length text) ∷ text ∷ more)) ≡ Ok (text, spaced_before more)
name-read text more h =
    let k : ℕ × List ℕ → Reading (List ℕ) = λ n. elim (bytes_from n.0 n.1) as (λ x. Reading (List ℕ)) [ None ↦ Err kinds.Missing | Some found ↦ unless (not (ends_token found.1)) kinds.BadName (Ok found) ] in
    ap (λ r. r >>= k) (name_length-read (length text) (text ∷ more) h)
    ∙ (ap (λ o. elim o as (λ x. Reading (List ℕ)) [ None ↦ Err kinds.Missing | Some found ↦ unless (not (ends_token found.1)) kinds.BadName (Ok found) ]) (bytes_from-name text (spaced_before more))
    ∙ passes (not (ends_token (spaced_before more))) kinds.BadName (Ok (text, spaced_before more)) (ap not (spaced_before-ends more)))

-- ---- lists

-- entries that are written as these words, and read back one by one
module _ {A : Type 0} (field : List ℕ → Reading A) (words : A → List (List ℕ)) (Fits : A → Type 0)
    (read : (x : A) (more : List (List ℕ)) → Fits x → field (spaced_before (words x ++ more)) ≡ Ok (x, spaced_before more)) where
  pub many-read : (xs : List A) (more : List (List ℕ)) → AllByRecursion Fits xs → many field (length xs) (spaced_before (flat_map words xs ++ more)) ≡ Ok (xs, spaced_before more)
  many-read [] more h = refl
  many-read (x ∷ xs) more h =
      let k1 : A × List ℕ → Reading (List A) = λ first. many field (length xs) first.1 >>= λ rest. Ok (first.0 ∷ rest.0, rest.1) in
      let k2 : List A × List ℕ → Reading (List A) = λ rest. Ok (x ∷ rest.0, rest.1) in
      ap (λ ws. many field (suc (length xs)) (spaced_before ws)) (append_assoc (words x) (flat_map words xs) more)
      ∙ (ap (λ r. r >>= k1) (read x (flat_map words xs ++ more) h.0) ∙ ap (λ r. r >>= k2) (many-read xs more h.1))

  -- spaced_before their number
  pub counted-read : (xs : List A) (more : List (List ℕ)) → IsShort xs → AllByRecursion Fits xs → counted field (spaced_before (decimal (length xs) ∷ (flat_map words xs ++ more))) ≡ Ok (xs, spaced_before more)
  counted-read xs more short h =
      let k : ℕ × List ℕ → Reading (List A) = λ n. many field n.0 n.1 in
      ap (λ r. r >>= k) (count-read (length xs) (flat_map words xs ++ more) short) ∙ many-read xs more h

  -- nothing spaced_before them
  pub counted-read_last : (xs : List A) → IsShort xs → AllByRecursion Fits xs → counted field (spaced_before (decimal (length xs) ∷ flat_map words xs)) ≡ Ok (xs, [])
  counted-read_last xs short h = ap (λ ws. counted field (spaced_before (decimal (length xs) ∷ ws))) (sym (append-nil (flat_map words xs))) ∙ counted-read xs [] short h

-- a literal and its weight
pub item-read : (weight_field : List ℕ → Reading ℤ) (Fits : ℤ → Type 0)
    → ((w : ℤ) (more : List (List ℕ)) → Fits w → weight_field (spaced_before (signed_decimal w ∷ more)) ≡ Ok (w, spaced_before more))
    → (x : Literal × ℤ) (more : List (List ℕ)) → IsAtom (atom_of x.0) × Fits x.1 → item weight_field (spaced_before (signed_decimal (integer_of x.0) ∷ signed_decimal x.1 ∷ more)) ≡ Ok (x, spaced_before more)
item-read weight_field Fits read x more h =
    let k1 : Literal × List ℕ → Reading (Literal × ℤ) = λ l. weight_field l.1 >>= λ w. Ok ((l.0, w.0), w.1) in
    let k2 : ℤ × List ℕ → Reading (Literal × ℤ) = λ w. Ok ((x.0, w.0), w.1) in
    ap (λ r. r >>= k1) (literal-read x.0 (signed_decimal x.1 ∷ more) h.0) ∙ ap (λ r. r >>= k2) (read x.1 more h.1)
