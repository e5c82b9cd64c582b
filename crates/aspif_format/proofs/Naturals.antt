-- Which tokens are numerals of at least 0.
use Rattle.std.proofs.Common.{◌≡◌, ◌∙◌, ℕ, zero, suc, ◌+◌, ◌*◌, ◌-◌, ◌<◌, ◌≤◌, ◌==◌, Bool, true, false, not, cond, ◌&&◌, List, [], ◌∷◌, length, take, drop, get_or, Some, None, refl, sym, ap, subst, arith}
use Rattle.std.specs.Prelude.{Option, nat_le, ℤ, pos, int_lt}
use Rattle.std.specs.List.{list_all}
use Rattle.std.proofs.lemmas.Bool.{ltb-true, leb-true, leb-false, cond-false}
use Rattle.std.proofs.lemmas.List.{take_all}
use Rattle.asp_scan.specs.Tokens.{is_digit, digits_onto, natural_of, some_pos, some_neg}
use Rattle.aspif_format.specs.Read.{is_natural}
use Rattle.aspif_format.specs.private.Digits.{is_digit_to, are_digits_to}

abbrev at_least_0 : Option ℤ → Bool
at_least_0 number = elim number [ None ↦ false | Some n ↦ not (int_lt n (pos 0)) ]

not_below : (n : ℕ) → int_lt (pos n) (pos 0) ≡ false
not_below n = go (int_lt (pos n) (pos 0)) refl
  where
    go : (b : Bool) → int_lt (pos n) (pos 0) ≡ b → b ≡ false
    go true is = absurd (omega (arith, ltb-true n 0 is))
    go false is = refl

-- ---- digits

digits-are : (n : ℕ) (bytes : List ℕ) → at_least_0 (some_pos (digits_onto n bytes)) ≡ list_all (is_digit_to 57) bytes
digits-are n [] = ap not (not_below n)
digits-are n (byte ∷ bytes) = go (is_digit byte) (digits-are (10 * n + (byte - 48)) bytes)
  where
    go : (b : Bool) → at_least_0 (some_pos (digits_onto (10 * n + (byte - 48)) bytes)) ≡ list_all (is_digit_to 57) bytes
        → at_least_0 (some_pos (cond b (digits_onto (10 * n + (byte - 48)) bytes) None)) ≡ (b && list_all (is_digit_to 57) bytes)
    go true h = h
    go false h = refl

-- ---- digits behind a minus

below-0 : (n : ℕ) (bytes : List ℕ) → 0 < n → at_least_0 (some_neg (digits_onto n bytes)) ≡ false
below-0 zero [] above = absurd (omega arith)
below-0 (suc n) [] above = refl
below-0 n (byte ∷ bytes) above = go (is_digit byte) (below-0 (10 * n + (byte - 48)) bytes (omega arith))
  where
    go : (b : Bool) → at_least_0 (some_neg (digits_onto (10 * n + (byte - 48)) bytes)) ≡ false
        → at_least_0 (some_neg (cond b (digits_onto (10 * n + (byte - 48)) bytes) None)) ≡ false
    go true h = h
    go false h = refl

parts : (a b : Bool) → (a && b) ≡ true → (a ≡ true) × (b ≡ true)
parts true b h = (refl, h)
parts false b h = cc

zero-byte : (byte : ℕ) → is_digit_to 48 byte ≡ true → byte ≡ 48
zero-byte byte h =
    let both = parts (nat_le 48 byte) (nat_le byte 48) h in
    omega (arith, leb-true 48 byte both.0, leb-true byte 48 both.1)

above-zero : (byte : ℕ) → is_digit_to 48 byte ≡ false → is_digit byte ≡ true → 48 < byte
above-zero byte low h = go (nat_le byte 48) refl
  where
    here : nat_le 48 byte ≡ true
    here = (parts (nat_le 48 byte) (nat_le byte 57) h).0

    go : (b : Bool) → nat_le byte 48 ≡ b → 48 < byte
    go true is = cc (low, here, is)
    go false is = leb-false byte 48 is

zeros-are : (bytes : List ℕ) → at_least_0 (some_neg (digits_onto 0 bytes)) ≡ list_all (is_digit_to 48) bytes
zeros-are [] = refl
zeros-are (byte ∷ bytes) = split (is_digit_to 48 byte) refl (zeros-are bytes)
  where
    other : (b : Bool) → is_digit byte ≡ b → is_digit_to 48 byte ≡ false → at_least_0 (some_neg (cond b (digits_onto (10 * 0 + (byte - 48)) bytes) None)) ≡ false
    other true is low = let above : 48 < byte = above-zero byte low is in below-0 (10 * 0 + (byte - 48)) bytes (omega arith)
    other false is low = refl

    split : (b : Bool) → is_digit_to 48 byte ≡ b → at_least_0 (some_neg (digits_onto 0 bytes)) ≡ list_all (is_digit_to 48) bytes
        → at_least_0 (some_neg (cond (is_digit byte) (digits_onto (10 * 0 + (byte - 48)) bytes) None)) ≡ (b && list_all (is_digit_to 48) bytes)
    split true is h = subst (λ b. at_least_0 (some_neg (cond (is_digit b) (digits_onto (10 * 0 + (b - 48)) bytes) None)) ≡ list_all (is_digit_to 48) bytes) (sym (zero-byte byte is)) h
    split false is h = other (is_digit byte) refl is

-- ---- tokens

pub is_natural-minus : (bytes : List ℕ) → is_natural (45 ∷ bytes) ≡ are_digits_to 48 bytes
is_natural-minus [] = refl
is_natural-minus (byte ∷ bytes) = zeros-are (byte ∷ bytes)

pub is_natural-plain : (byte : ℕ) (bytes : List ℕ) → (byte == 45) ≡ false → is_natural (byte ∷ bytes) ≡ are_digits_to 57 (byte ∷ bytes)
is_natural-plain byte bytes other =
    ap at_least_0 (cond-false (byte == 45) (some_neg (natural_of bytes)) (some_pos (natural_of (byte ∷ bytes))) other)
    ∙ digits-are 0 (byte ∷ bytes)

-- the front byte and the slice behind it
pub is_natural-front : (token : List ℕ) → 1 ≤ length token → get_or token 0 0 ≡ 45 → is_natural token ≡ are_digits_to 48 (take (length token - 1) (drop 1 token))
is_natural-front [] some first = absurd (omega arith)
is_natural-front (byte ∷ bytes) some first =
    ap (λ b. is_natural (b ∷ bytes)) first
    ∙ is_natural-minus bytes
    ∙ ap (are_digits_to 48) (sym (take_all (length (byte ∷ bytes) - 1) bytes (omega arith)))

pub ruleset naturals = (is_natural-minus, is_natural-plain)
