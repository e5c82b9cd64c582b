-- The first line of a text, cut at the place that a search finds, and the end of a line.
use Rattle.std.proofs.Common.{◌≡◌, refl, sym, ◌∙◌, ap, ℕ, zero, suc, ◌+◌, ◌-◌, ◌<◌, ◌==◌, true, false, List, [], ◌∷◌, length, take, drop, get_or, length-drop, arith}
use Rattle.std.proofs.lemmas.Bool.{cond-true, cond-false, false_from_ne_true}
use Rattle.std.proofs.lemmas.List.{take_all}
use Rattle.memchr.specs.Find.{NoneBefore, Nowhere, Passes, is_byte}
use Rattle.asp_scan.specs.Lines.{onto_first, pieces_of, without_return}

-- a text whose byte at k is the first line feed
pub pieces_of-cut : (text : List ℕ) (k : ℕ) → k < length text → (get_or text k 0 == 10) ≡ true → ((j : ℕ) → j < k → (get_or text j 0 == 10) ≡ false)
    → pieces_of text ≡ take k text ∷ pieces_of (drop (suc k) text)
pieces_of-cut [] k l here before = absurd (omega arith)
pieces_of-cut (byte ∷ bytes) zero l here before = cond-true (byte == 10) _ _ here
pieces_of-cut (byte ∷ bytes) (suc k) l here before =
    cond-false (byte == 10) ([] ∷ pieces_of bytes) (onto_first byte (pieces_of bytes)) (before 0 (omega arith))
    ∙ ap (onto_first byte) (pieces_of-cut bytes k (omega arith) here (λ j h. before (suc j) (omega arith)))

-- a text without a line feed
pub pieces_of-whole : (byte : ℕ) (bytes : List ℕ) → ((j : ℕ) → j < suc (length bytes) → (get_or (byte ∷ bytes) j 0 == 10) ≡ false)
    → pieces_of (byte ∷ bytes) ≡ (byte ∷ bytes) ∷ []
pieces_of-whole byte [] none = cond-false (byte == 10) ([] ∷ []) (onto_first byte []) (none 0 (omega arith))
pieces_of-whole byte (next ∷ bytes) none =
    cond-false (byte == 10) ([] ∷ pieces_of (next ∷ bytes)) (onto_first byte (pieces_of (next ∷ bytes))) (none 0 (omega arith))
    ∙ ap (onto_first byte) (pieces_of-whole next bytes (λ j h. none (suc j) (omega arith)))

-- what a slice has from a place to its end
pub take-rest : (text : List ℕ) (i : ℕ) → take (length text - i) (drop i text) ≡ drop i text
take-rest text i = take_all (length text - i) (drop i text) (omega (arith, length-drop i text))

pub pieces_of-found : (text : List ℕ) (k : ℕ) → NoneBefore (Passes (is_byte 10) text) 0 (length text) k → (get_or text k 0 == 10) ≡ true
    → pieces_of text ≡ take k text ∷ pieces_of (take (length text - (k + 1)) (drop (k + 1) text))
pieces_of-found text k first here =
    pieces_of-cut text k first.high here (λ j h. false_from_ne_true _ (first.before j (omega arith) h))
    ∙ ap (λ rest. take k text ∷ pieces_of rest) (ap (λ j. drop j text) (let e : suc k ≡ k + 1 = omega arith in e) ∙ sym (take-rest text (k + 1)))

pub pieces_of-none : (text : List ℕ) → (length text == 0) ≡ false → Nowhere (Passes (is_byte 10) text) 0 (length text) → pieces_of text ≡ text ∷ []
pieces_of-none [] some none = absurd (cc)
pieces_of-none (byte ∷ bytes) some none = pieces_of-whole byte bytes (λ j h. false_from_ne_true _ (none j (omega arith) h))

-- at the place of its last byte
pub without_return-cut : (line : List ℕ) (k : ℕ) → suc k ≡ length line → (get_or line k 0 == 13) ≡ true → take k line ≡ without_return line
without_return-cut [] k l here = absurd (omega arith)
without_return-cut (byte ∷ []) zero l here = sym (cond-true (byte == 13) [] (byte ∷ []) here)
without_return-cut (byte ∷ []) (suc k) l here = absurd (omega arith)
without_return-cut (byte ∷ next ∷ bytes) zero l here = absurd (omega arith)
without_return-cut (byte ∷ next ∷ bytes) (suc k) l here = ap (λ rest. byte ∷ rest) (without_return-cut (next ∷ bytes) k (omega arith) here)

pub without_return-whole : (line : List ℕ) (k : ℕ) → suc k ≡ length line → (get_or line k 0 == 13) ≡ false → line ≡ without_return line
without_return-whole [] k l other = refl
without_return-whole (byte ∷ []) zero l other = sym (cond-false (byte == 13) [] (byte ∷ []) other)
without_return-whole (byte ∷ []) (suc k) l other = absurd (omega arith)
without_return-whole (byte ∷ next ∷ bytes) zero l other = absurd (omega arith)
without_return-whole (byte ∷ next ∷ bytes) (suc k) l other = ap (λ rest. byte ∷ rest) (without_return-whole (next ∷ bytes) k (omega arith) other)
