-- The digits at the front of a text, read into a number that stops at the greatest u64.
use Rattle.std.proofs.Common.{◌≡◌, refl, ◌∙◌, ℕ, zero, suc, ◌+◌, ◌-◌, ◌*◌, ◌^◌, ◌≤◌, ◌<◌, nat_le, min, Bool, true, false, cond, List, [], ◌∷◌, length, drop, get_or, Option, Some, None, arith}
use Rattle.std.proofs.lemmas.Bool.{and_parts, or_from, cond-true, cond-false, leb-true, ne_eqb}
use Rattle.asp_scan.specs.private.CutAtMost.{cut_at_most}
use Rattle.asp_scan.specs.Lines.{is_blank}
use Rattle.asp_scan.specs.Tokens.{token_front, after_token, is_digit, digits_onto}

-- the digits up to the first blank on a number that is already cut, and the text from there
abbrev pub capped : ℕ → List ℕ → Option (ℕ × List ℕ)
capped n [] = Some (n, [])
capped n (byte ∷ bytes) = cond (is_digit byte) (capped (min (min (n * 10) (2 ^ 64 - 1) + (byte - 48)) (2 ^ 64 - 1)) bytes) (cond (is_blank byte) (Some (n, byte ∷ bytes)) None)

pub digit-black : (byte : ℕ) → is_digit byte ≡ true → is_blank byte ≡ false
digit-black byte h =
    let low : 48 ≤ byte = leb-true 48 byte (and_parts (nat_le 48 byte) (nat_le byte 57) h).0 in
    or_from _ _ (ne_eqb byte 32 (λ e. omega arith)) (ne_eqb byte 9 (λ e. omega arith))

-- what is cut at once and what is cut after each digit
next-capped : (n d : ℕ) → min (min (min n (2 ^ 64 - 1) * 10) (2 ^ 64 - 1) + d) (2 ^ 64 - 1) ≡ min (10 * n + d) (2 ^ 64 - 1)
next-capped n d = omega arith

abbrev pub Capped : ℕ → List ℕ → Type 0
Capped n text = capped (min n (2 ^ 64 - 1)) text ≡ cut_at_most (digits_onto n (token_front text)) (after_token text)

capped-byte : (n byte : ℕ) (bytes : List ℕ) (digit blank : Bool) → is_digit byte ≡ digit → is_blank byte ≡ blank → Capped (10 * n + (byte - 48)) bytes → Capped n (byte ∷ bytes)
capped-byte n byte bytes true true d b rest = absurd (let e : is_blank byte ≡ false = digit-black byte d in cc)
capped-byte n byte bytes true false d b rest = simp (d, b, next-capped) rest
capped-byte n byte bytes false true d b rest = simp (d, b)
capped-byte n byte bytes false false d b rest = simp (d, b)

pub capped-is : (n : ℕ) (text : List ℕ) → Capped n text
capped-is n [] = refl
capped-is n (byte ∷ bytes) = capped-byte n byte bytes (is_digit byte) (is_blank byte) refl refl (capped-is (10 * n + (byte - 48)) bytes)

pub capped-blank : (text : List ℕ) (i n : ℕ) → i < length text → is_digit (get_or text i 0) ≡ false → is_blank (get_or text i 0) ≡ true → capped n (drop i text) ≡ Some (n, drop i text)
capped-blank [] i n l d b = absurd (omega arith)
capped-blank (byte ∷ bytes) zero n l d b = cond-false (is_digit byte) _ _ d ∙ cond-true (is_blank byte) _ _ b
capped-blank (byte ∷ bytes) (suc i) n l d b = capped-blank bytes i n (omega arith) d b

pub capped-other : (text : List ℕ) (i n : ℕ) → i < length text → is_digit (get_or text i 0) ≡ false → is_blank (get_or text i 0) ≡ false → capped n (drop i text) ≡ None
capped-other [] i n l d b = absurd (omega arith)
capped-other (byte ∷ bytes) zero n l d b = cond-false (is_digit byte) _ _ d ∙ cond-false (is_blank byte) _ _ b
capped-other (byte ∷ bytes) (suc i) n l d b = capped-other bytes i n (omega arith) d b
