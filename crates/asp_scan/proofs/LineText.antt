-- Written lines are read as lines.
use Rattle.std.proofs.Common.{◌≡◌, refl, sym, ◌∙◌, ap, ℕ, suc, ◌≤◌, ◌==◌, Bool, true, false, not, ◌&&◌, cond, List, [], ◌∷◌, ◌++◌, length, arith}
use Rattle.std.specs.List.{list_all}
use Rattle.std.proofs.lemmas.Bool.{and_parts, and_from, cond-false, true≢false}
use Rattle.asp_scan.specs.Lines.{onto_first, is_blank, is_blank_line, pieces_of, without_return, numbered, lines_of}
use Rattle.asp_scan.specs.Words.{stays_in_line, ends_with_return, IsLine}

pub from_not-true : (b : Bool) → not b ≡ true → b ≡ false
from_not-true true h = absurd (true≢false (sym h))
from_not-true false h = refl

pub pieces_of-front : (line rest : List ℕ) → list_all stays_in_line line ≡ true → pieces_of (line ++ (10 ∷ rest)) ≡ line ∷ pieces_of rest
pieces_of-front [] rest h = refl
pieces_of-front (byte ∷ line) rest h =
    let parts : (stays_in_line byte ≡ true) × (list_all stays_in_line line ≡ true) = and_parts (stays_in_line byte) (list_all stays_in_line line) h in
    cond-false (byte == 10) ([] ∷ pieces_of (line ++ (10 ∷ rest))) (onto_first byte (pieces_of (line ++ (10 ∷ rest)))) (from_not-true (byte == 10) parts.0)
    ∙ ap (onto_first byte) (pieces_of-front line rest parts.1)

without_return-other : (line : List ℕ) → ends_with_return line ≡ false → without_return line ≡ line
without_return-other [] h = refl
without_return-other (byte ∷ []) h = cond-false (byte == 13) [] (byte ∷ []) h
without_return-other (byte ∷ next ∷ line) h = ap (λ l. byte ∷ l) (without_return-other (next ∷ line) h)

-- a line with its end in front of other text
pub pieces_of-line : (line rest : List ℕ) → IsLine line → pieces_of (line ++ (10 ∷ rest)) ≡ line ∷ pieces_of rest
pieces_of-line line rest h = pieces_of-front line rest (and_parts (list_all stays_in_line line) (not (ends_with_return line)) h).0

pub without_return-line : (line : List ℕ) → IsLine line → without_return line ≡ line
without_return-line line h = without_return-other line (from_not-true (ends_with_return line) (and_parts (list_all stays_in_line line) (not (ends_with_return line)) h).1)

pub numbered-written : (n : ℕ) (line rest : List ℕ) → IsLine line → is_blank_line line ≡ false
    → numbered n (pieces_of (line ++ (10 ∷ rest))) ≡ record { number = n; bytes = line } ∷ numbered (suc n) (pieces_of rest)
numbered-written n line rest h some =
    ap (numbered n) (pieces_of-line line rest h)
    ∙ (cond-false (is_blank_line (without_return line)) _ _ (ap is_blank_line (without_return-line line h) ∙ some)
    ∙ ap (λ (bytes : List ℕ). record { number = n; bytes = bytes } ∷ numbered (suc n) (pieces_of rest)) (without_return-line line h))

-- ---- lines from their parts

ends-append : (front : List ℕ) (byte : ℕ) (bytes : List ℕ) → ends_with_return (front ++ (byte ∷ bytes)) ≡ ends_with_return (byte ∷ bytes)
ends-append [] byte bytes = refl
ends-append (first ∷ []) byte bytes = refl
ends-append (first ∷ next ∷ front) byte bytes = ends-append (next ∷ front) byte bytes

stays-append : (front back : List ℕ) → list_all stays_in_line front ≡ true → list_all stays_in_line back ≡ true → list_all stays_in_line (front ++ back) ≡ true
stays-append [] back h k = k
stays-append (byte ∷ front) back h k =
    let parts : (stays_in_line byte ≡ true) × (list_all stays_in_line front ≡ true) = and_parts (stays_in_line byte) (list_all stays_in_line front) h in
    and_from (stays_in_line byte) _ parts.0 (stays-append front back parts.1 k)

-- any bytes without a line feed in front of a line that has a byte
pub IsLine-append : (front : List ℕ) (byte : ℕ) (bytes : List ℕ) → list_all stays_in_line front ≡ true → IsLine (byte ∷ bytes) → IsLine (front ++ (byte ∷ bytes))
IsLine-append front byte bytes h line =
    let parts : (list_all stays_in_line (byte ∷ bytes) ≡ true) × (not (ends_with_return (byte ∷ bytes)) ≡ true) = and_parts (list_all stays_in_line (byte ∷ bytes)) (not (ends_with_return (byte ∷ bytes))) line in
    and_from _ _ (stays-append front (byte ∷ bytes) h parts.0) (ap not (ends-append front byte bytes) ∙ parts.1)

-- a line that has a byte that is no blank
pub is_blank_line-append : (front : List ℕ) (byte : ℕ) (bytes : List ℕ) → is_blank byte ≡ false → is_blank_line (front ++ (byte ∷ bytes)) ≡ false
is_blank_line-append [] byte bytes h = ap (λ b. b && list_all is_blank bytes) h
is_blank_line-append (first ∷ front) byte bytes h = by (is_blank first) (is_blank_line-append front byte bytes h)
  where
    by : (b : Bool) → is_blank_line (front ++ (byte ∷ bytes)) ≡ false → (b && is_blank_line (front ++ (byte ∷ bytes))) ≡ false
    by true h = h
    by false h = refl

-- ---- how many lines there are

length-onto_first : (byte : ℕ) (pieces : List (List ℕ)) (n : ℕ) → length pieces ≤ n → length (onto_first byte pieces) ≤ suc n
length-onto_first byte [] n h = omega arith
length-onto_first byte (piece ∷ pieces) n h = omega arith

-- no more pieces than bytes
pub length-pieces_of : (text : List ℕ) → length (pieces_of text) ≤ length text
length-pieces_of [] = omega arith
length-pieces_of (byte ∷ bytes) = by (byte == 10) (length-pieces_of bytes)
  where
    by : (b : Bool) → length (pieces_of bytes) ≤ length bytes → length (cond b ([] ∷ pieces_of bytes) (onto_first byte (pieces_of bytes))) ≤ length (byte ∷ bytes)
    by true h = omega arith
    by false h = length-onto_first byte (pieces_of bytes) (length bytes) h

-- no more lines than pieces
pub length-numbered : (n : ℕ) (pieces : List (List ℕ)) → length (numbered n pieces) ≤ length pieces
length-numbered n [] = omega arith
length-numbered n (piece ∷ pieces) = by (is_blank_line (without_return piece)) (length-numbered (suc n) pieces)
  where
    by : (b : Bool) → length (numbered (suc n) pieces) ≤ length pieces
        → length (cond b (numbered (suc n) pieces) (record { number = n; bytes = without_return piece } ∷ numbered (suc n) pieces)) ≤ length (piece ∷ pieces)
    by true h = omega arith
    by false h = omega arith

pub length-lines_of : (text : List ℕ) → length (lines_of text) ≤ length text
length-lines_of text = let k : length (lines_of text) ≤ length (pieces_of text) = length-numbered 1 (pieces_of text) in let j : length (pieces_of text) ≤ length text = length-pieces_of text in omega arith
