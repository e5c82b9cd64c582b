-- Written numbers are words, and are read as numbers.
use Rattle.std.proofs.Common.{◌≡◌, refl, ◌∙◌, ap, ℕ, suc, ◌+◌, ◌-◌, ◌*◌, ◌/◌, ◌%◌, ◌^◌, ◌≤◌, ◌<◌, ◌==◌, nat_le, ℤ, pos, negsuc, nat_abs, Bool, true, false, not, cond, ◌||◌, List, [], ◌∷◌, ◌++◌, Option, Some, None, Ok, decimal, FitsSigned, arith}
use Rattle.std.specs.Fmt.{signed_decimal}
use Rattle.std.specs.Int.{w64}
use Rattle.std.specs.List.{list_all}
use Rattle.std.proofs.lemmas.Bool.{and_parts, and_from, or_from, cond-true, cond-false, le-leb, leb-true, ne_eqb}
use Rattle.std.proofs.lemmas.Fmt.{decimal_by_steps_wide}
use Rattle.asp_scan.specs.Lines.{is_blank}
use Rattle.asp_scan.specs.Tokens.{is_digit, digits_onto, natural_of, some_pos, some_neg, integer_of, fits_i64, checked, with_rest, number_of, number_at}
use Rattle.asp_scan.specs.Words.{is_word_byte, IsWord, Ends}
use Rattle.asp_scan.proofs.CappedDigits.{digit-black}
use Rattle.asp_scan.proofs.LineTokens.{number_in}
use Rattle.asp_scan.proofs.WordText.{token_at-word}

digits_onto-append : (a m : ℕ) (xs ys : List ℕ) → digits_onto a xs ≡ Some m → digits_onto a (xs ++ ys) ≡ digits_onto m ys
digits_onto-append a m [] ys e = let k : a ≡ m = cc in ap (λ n. digits_onto n ys) k
digits_onto-append a m (x ∷ xs) ys e = go (is_digit x) e (λ h. digits_onto-append (10 * a + (x - 48)) m xs ys h)
  where
    go : (b : Bool) → cond b (digits_onto (10 * a + (x - 48)) xs) None ≡ Some m → (digits_onto (10 * a + (x - 48)) xs ≡ Some m → digits_onto (10 * a + (x - 48)) (xs ++ ys) ≡ digits_onto m ys)
        → cond b (digits_onto (10 * a + (x - 48)) (xs ++ ys)) None ≡ digits_onto m ys
    go true h rest = rest h
    go false h rest = absurd (cc)

-- digits that spell n
pub record Spells (n : ℕ) (digits : List ℕ) : Type 0 where
  pub value : natural_of digits ≡ Some n
  pub digits_all : list_all is_digit digits ≡ true

digit_is : (k : ℕ) → k < 10 → is_digit (48 + k) ≡ true
digit_is k h = and_from _ _ (le-leb 48 (48 + k) (omega arith)) (le-leb (48 + k) 57 (omega arith))

one_digit : (a k : ℕ) → k < 10 → digits_onto a ((48 + k) ∷ []) ≡ Some (10 * a + k)
one_digit a k h = cond-true (is_digit (48 + k)) _ None (digit_is k h) ∙ ap Some (let e : 10 * a + ((48 + k) - 48) ≡ 10 * a + k = omega arith in e)

all-push : (xs : List ℕ) (x : ℕ) → list_all is_digit xs ≡ true → is_digit x ≡ true → list_all is_digit (xs ++ (x ∷ [])) ≡ true
all-push [] x h p = and_from (is_digit x) true p refl
all-push (y ∷ xs) x h p =
    let parts : (is_digit y ≡ true) × (list_all is_digit xs ≡ true) = and_parts (is_digit y) (list_all is_digit xs) h in
    and_from (is_digit y) _ parts.0 (all-push xs x parts.1 p)

-- one more digit
spells-more : (k : ℕ) (ds : List ℕ) → Spells (k / 10) ds → Spells k (ds ++ ((48 + k % 10) ∷ []))
spells-more k [] s = absurd (let none : None ≡ Some (k / 10) = s.value in cc)
spells-more k (d ∷ ds) s = record {
  value = digits_onto-append 0 (k / 10) (d ∷ ds) ((48 + k % 10) ∷ []) s.value
      ∙ (one_digit (k / 10) (k % 10) (omega arith) ∙ ap Some (let e : 10 * (k / 10) + k % 10 ≡ k = omega arith in e));
  digits_all = all-push (d ∷ ds) (48 + k % 10) s.digits_all (digit_is (k % 10) (omega arith));
}

pub decimal-spells : (n : ℕ) → n < 10 ^ 64 → Spells n (decimal n)
decimal-spells n h = decimal_by_steps_wide Spells
    (λ k l. record { value = one_digit 0 k l ∙ ap Some (let e : 10 * 0 + k ≡ k = omega arith in e); digits_all = and_from (is_digit (48 + k)) true (digit_is k l) refl })
    (λ k ds l s. spells-more k ds s)
    n h

-- ---- numbers as words

digit-word : (d : ℕ) → is_digit d ≡ true → is_word_byte d ≡ true
digit-word d h =
    let low : 48 ≤ d = leb-true 48 d (and_parts (nat_le 48 d) (nat_le d 57) h).0 in
    ap not (or_from (is_blank d || (d == 10)) (d == 13) (or_from (is_blank d) (d == 10) (digit-black d h) (ne_eqb d 10 (λ e. omega arith))) (ne_eqb d 13 (λ e. omega arith)))

digits-word : (ds : List ℕ) → list_all is_digit ds ≡ true → list_all is_word_byte ds ≡ true
digits-word [] h = refl
digits-word (d ∷ ds) h = let parts : (is_digit d ≡ true) × (list_all is_digit ds ≡ true) = and_parts (is_digit d) (list_all is_digit ds) h in and_from (is_word_byte d) _ (digit-word d parts.0) (digits-word ds parts.1)

spelled-word : (n : ℕ) (ds : List ℕ) → Spells n ds → IsWord ds
spelled-word n [] s = absurd (let none : None ≡ Some n = s.value in cc)
spelled-word n (d ∷ ds) s = digits-word (d ∷ ds) s.digits_all

pub decimal-word : (n : ℕ) → n < 10 ^ 64 → IsWord (decimal n)
decimal-word n h = spelled-word n (decimal n) (decimal-spells n h)

-- at most 64 digits: each i128 has fewer
abbrev pub IsShort : ℤ → Type 0
IsShort (pos n) = n < 10 ^ 64
IsShort (negsuc n) = suc n < 10 ^ 64

pub signed-word : (z : ℤ) → IsShort z → IsWord (signed_decimal z)
signed-word (pos n) h = decimal-word n h
signed-word (negsuc n) h = word (decimal (suc n)) (decimal-word (suc n) h)
  where
    word : (ds : List ℕ) → IsWord ds → IsWord (45 ∷ ds)
    word [] h = refl
    word (d ∷ ds) h = h

-- ---- numbers as they are read

pub integer_of-spelled : (n : ℕ) (ds : List ℕ) → Spells n ds → integer_of ds ≡ Some (pos n)
integer_of-spelled n [] s = absurd (let none : None ≡ Some n = s.value in cc)
integer_of-spelled n (d ∷ ds) s =
    let parts : (is_digit d ≡ true) × (list_all is_digit ds ≡ true) = and_parts (is_digit d) (list_all is_digit ds) s.digits_all in
    let low : 48 ≤ d = leb-true 48 d (and_parts (nat_le 48 d) (nat_le d 57) parts.0).0 in
    cond-false (d == 45) _ _ (ne_eqb d 45 (λ e. omega arith)) ∙ ap some_pos s.value

pub integer_of-signed : (z : ℤ) → IsShort z → integer_of (signed_decimal z) ≡ Some z
integer_of-signed (pos n) h = integer_of-spelled n (decimal n) (decimal-spells n h)
integer_of-signed (negsuc n) h = ap some_neg (decimal-spells (suc n) h).value

-- what fits i64 is short
pub IsShort-from_fits : (z : ℤ) → fits_i64 z ≡ true → IsShort z
IsShort-from_fits (pos n) h = let l : suc n ≤ 2 ^ 63 = leb-true (suc n) (2 ^ 63) (and_parts true (nat_le (suc n) (2 ^ 63)) h).1 in omega arith
IsShort-from_fits (negsuc n) h = let l : n ≤ 2 ^ 63 - 1 = leb-true n (2 ^ 63 - 1) (and_parts (nat_le n (2 ^ 63 - 1)) true h).0 in omega arith

pub fits_i64-pos : (n : ℕ) → n < 2 ^ 63 → fits_i64 (pos n) ≡ true
fits_i64-pos n h = le-leb (suc n) (2 ^ 63) (omega arith)

pub fits_i64-negsuc : (n : ℕ) → n < 2 ^ 63 → fits_i64 (negsuc n) ≡ true
fits_i64-negsuc n h = and_from _ _ (le-leb n (2 ^ 63 - 1) (omega arith)) refl

-- at most 2^31 in magnitude
pub fits_i64-small : (z : ℤ) → nat_abs z ≤ 2 ^ 31 → fits_i64 z ≡ true
fits_i64-small (pos n) h = fits_i64-pos n (omega (arith, h))
fits_i64-small (negsuc n) h = fits_i64-negsuc n (omega (arith, h))

pub fitting-is_word : (z : ℤ) → fits_i64 z ≡ true → IsWord (signed_decimal z)
fitting-is_word z fits = signed-word z (IsShort-from_fits z fits)

pub small-is_word : (z : ℤ) → nat_abs z ≤ 2 ^ 31 → IsWord (signed_decimal z)
small-is_word z h = fitting-is_word z (fits_i64-small z h)

pub natural-is_word : (n : ℕ) → n < 2 ^ 64 → IsWord (decimal n)
natural-is_word n h = decimal-word n (omega arith)

-- each i64
pub fits_i64-from_type : (z : ℤ) → FitsSigned w64 z → fits_i64 z ≡ true
fits_i64-from_type (pos n) h = fits_i64-pos n (omega (arith, h))
fits_i64-from_type (negsuc n) h = fits_i64-negsuc n (omega (arith, h))

pub number_of-signed : (z : ℤ) → fits_i64 z ≡ true → number_of (signed_decimal z) ≡ Some z
number_of-signed z fits =
    ap (λ o. elim o as (λ x. Option ℤ) [ None ↦ None | Some n ↦ cond (fits_i64 n) (Some n) None ]) (integer_of-signed z (IsShort-from_fits z fits))
    ∙ cond-true (fits_i64 z) (Some z) None fits

-- what is written of a number is read as that number
pub number_at-signed : (z : ℤ) (rest : List ℕ) → fits_i64 z ≡ true → Ends rest → number_at (signed_decimal z ++ rest) ≡ Ok (z, rest)
number_at-signed z rest fits e =
    ap number_in (token_at-word (signed_decimal z) rest (fitting-is_word z fits) e)
    ∙ (ap (λ o. with_rest (checked o) rest) (integer_of-signed z (IsShort-from_fits z fits)) ∙ ap (λ r. with_rest r rest) (cond-true (fits_i64 z) _ _ fits))

-- also behind a space
pub number_at-spaced : (z : ℤ) (rest : List ℕ) → fits_i64 z ≡ true → Ends rest → number_at (32 ∷ (signed_decimal z ++ rest)) ≡ Ok (z, rest)
number_at-spaced z rest fits e = number_at-signed z rest fits e
