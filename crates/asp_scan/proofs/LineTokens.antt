-- The tokens of a line, one at a time.
use Rattle.std.proofs.Common.{◌≡◌, refl, sym, ◌∙◌, ap, ap₂, subst, ℕ, zero, suc, ◌≤◌, ◌<◌, ◌==◌, ℤ, Bool, true, false, cond, List, [], ◌∷◌, length, drop, Option, Some, None, Result, Ok, Err, arith}
use Rattle.std.proofs.lemmas.Bool.{cond-true, cond-false}
use Rattle.asp_scan.specs.Lines.{is_blank}
use Rattle.asp_scan.specs.Tokens.{skip_blanks, token_front, after_token, token_at, integer_of, checked, with_rest, tokens_within, tokens}
use Rattle.asp_scan.specs.Words.{ends_token}
use Rattle.asp_scan.specs.declared.scan.ScanFault.{ScanFault}
use Rattle.asp_scan.specs.declared.scan.ScanFault.TheVariants.{Missing}

-- ---- `token_at` and `number_at` by their steps

-- the token at the front of a line whose blanks were skipped
abbrev pub first_token : List ℕ → Option (List ℕ × List ℕ)
first_token skipped = elim skipped [ [] ↦ None | byte ∷ bytes ↦ Some (token_front (byte ∷ bytes), after_token (byte ∷ bytes)) ]

-- the number that a token is
abbrev pub number_in : Option (List ℕ × List ℕ) → Result (ℤ × List ℕ) ScanFault
number_in token = elim token [ None ↦ Err Missing | Some token ↦ with_rest (checked (integer_of token.0)) token.1 ]

-- what was found, and what follows it
abbrev pub found_of : Option (List ℕ × List ℕ) → List ℕ
found_of None = []
found_of (Some found) = found.0

abbrev pub left_of : Option (List ℕ × List ℕ) → List ℕ
left_of None = []
left_of (Some found) = found.1

abbrev pub left_of_number : Result (ℤ × List ℕ) ScanFault → List ℕ
left_of_number (Ok read) = read.1
left_of_number (Err fault) = []

-- what follows a number is what followed its token
pub with_rest-left : (number : Result ℤ ScanFault) (rest left : List ℕ) (n : ℤ) → with_rest number rest ≡ Ok (n, left) → rest ≡ left
with_rest-left (Ok m) rest left n e = ap left_of_number e
with_rest-left (Err fault) rest left n e = absurd (cc)

-- blanks are skipped also where the first is taken before
pub skip_blanks-drop : (line : List ℕ) → ends_token line ≡ true → skip_blanks line ≡ skip_blanks (drop 1 line)
skip_blanks-drop [] blank = refl
skip_blanks-drop (byte ∷ bytes) blank = cond-true (is_blank byte) (skip_blanks bytes) (byte ∷ bytes) blank

-- ---- what follows is shorter

pub after_token-short : (bytes : List ℕ) → length (after_token bytes) ≤ length bytes
after_token-short [] = omega arith
after_token-short (byte ∷ bytes) = by (is_blank byte) (after_token-short bytes)
  where
    by : (b : Bool) → length (after_token bytes) ≤ length bytes → length (cond b (byte ∷ bytes) (after_token bytes)) ≤ length (byte ∷ bytes)
    by true h = omega arith
    by false h = omega arith

-- what follows a token is shorter than the line
pub token_at-shorter : (line : List ℕ) (token : List ℕ × List ℕ) → token_at line ≡ Some token → length token.1 < length line
token_at-shorter [] token e = absurd (cc)
token_at-shorter (byte ∷ bytes) token e = by (is_blank byte) refl e (λ h. token_at-shorter bytes token h) (after_token-short bytes)
  where
    by : (b : Bool) → is_blank byte ≡ b → first_token (cond b (skip_blanks bytes) (byte ∷ bytes)) ≡ Some token
        → (token_at bytes ≡ Some token → length token.1 < length bytes) → length (after_token bytes) ≤ length bytes → length token.1 < length (byte ∷ bytes)
    by true b h rest short = let k : length token.1 < length bytes = rest h in omega arith
    by false b h rest short =
        let same : after_token (byte ∷ bytes) ≡ token.1 = ap left_of h in
        let found : after_token (byte ∷ bytes) ≡ after_token bytes = ap (λ c. cond c (byte ∷ bytes) (after_token bytes)) b in
        let k : length (after_token bytes) ≡ length token.1 = ap length (sym found ∙ same) in
        omega arith

-- also where blanks were skipped before
pub behind-shorter : (line skipped : List ℕ) → skipped ≡ skip_blanks line → (length skipped == 0) ≡ false → length (after_token skipped) < length line
behind-shorter line [] is some = absurd (cc)
behind-shorter line (byte ∷ bytes) is some = token_at-shorter line (token_front (byte ∷ bytes), after_token (byte ∷ bytes)) (ap first_token (sym is))

-- ---- the tokens in turn

pub none-left : (most : ℕ) → tokens_within most [] ≡ []
none-left zero = refl
none-left (suc most) = refl

-- there are no more tokens than bytes
within-same : (m k : ℕ) (line : List ℕ) → length line ≤ m → length line ≤ k → tokens_within m line ≡ tokens_within k line
within-same zero k [] h j = sym (none-left k)
within-same zero k (byte ∷ bytes) h j = absurd (omega arith)
within-same (suc m) zero [] h j = refl
within-same (suc m) zero (byte ∷ bytes) h j = absurd (omega arith)
within-same (suc m) (suc k) line h j = by (token_at line) refl (λ rest a b. within-same m k rest a b)
  where
    by : (o : Option (List ℕ × List ℕ)) → token_at line ≡ o → ((rest : List ℕ) → length rest ≤ m → length rest ≤ k → tokens_within m rest ≡ tokens_within k rest)
        → elim o as (λ x. List (List ℕ)) [ None ↦ [] | Some token ↦ token.0 ∷ tokens_within m token.1 ] ≡ elim o as (λ x. List (List ℕ)) [ None ↦ [] | Some token ↦ token.0 ∷ tokens_within k token.1 ]
    by None e rest = refl
    by (Some token) e rest = let short : length token.1 < length line = token_at-shorter line token e in ap (λ ts. token.0 ∷ ts) (rest token.1 (omega arith) (omega arith))

-- the tokens of a line are the first, and those of what follows it
pub tokens-some : (line : List ℕ) (token : List ℕ × List ℕ) → token_at line ≡ Some token → tokens line ≡ token.0 ∷ tokens token.1
tokens-some [] token e = absurd (cc)
tokens-some (byte ∷ bytes) token e =
    let short : length token.1 < length (byte ∷ bytes) = token_at-shorter (byte ∷ bytes) token e in
    ap (λ o. elim o as (λ x. List (List ℕ)) [ None ↦ [] | Some t ↦ t.0 ∷ tokens_within (length bytes) t.1 ]) e
    ∙ ap (λ ts. token.0 ∷ ts) (within-same (length bytes) (length token.1) token.1 (omega arith) (omega arith))

pub tokens-none : (line : List ℕ) → token_at line ≡ None → tokens line ≡ []
tokens-none [] e = refl
tokens-none (byte ∷ bytes) e = ap (λ o. elim o as (λ x. List (List ℕ)) [ None ↦ [] | Some t ↦ t.0 ∷ tokens_within (length bytes) t.1 ]) e

-- ---- a token alone

token_front-again : (bytes : List ℕ) → token_front (token_front bytes) ≡ token_front bytes
token_front-again [] = refl
token_front-again (byte ∷ bytes) = by (is_blank byte) refl (token_front-again bytes)
  where
    by : (b : Bool) → is_blank byte ≡ b → token_front (token_front bytes) ≡ token_front bytes → token_front (cond b [] (byte ∷ token_front bytes)) ≡ cond b [] (byte ∷ token_front bytes)
    by true e rest = refl
    by false e rest = cond-false (is_blank byte) _ _ e ∙ ap (λ l. byte ∷ l) rest

after_token-front : (bytes : List ℕ) → after_token (token_front bytes) ≡ []
after_token-front [] = refl
after_token-front (byte ∷ bytes) = by (is_blank byte) refl (after_token-front bytes)
  where
    by : (b : Bool) → is_blank byte ≡ b → after_token (token_front bytes) ≡ [] → after_token (cond b [] (byte ∷ token_front bytes)) ≡ []
    by true e rest = refl
    by false e rest = cond-false (is_blank byte) _ _ e ∙ rest

skipped-first : (line : List ℕ) (first : ℕ) (rest : List ℕ) → skip_blanks line ≡ first ∷ rest → is_blank first ≡ false
skipped-first [] first rest e = absurd (cc)
skipped-first (byte ∷ bytes) first rest e = by (is_blank byte) refl e (λ h. skipped-first bytes first rest h)
  where
    by : (b : Bool) → is_blank byte ≡ b → cond b (skip_blanks bytes) (byte ∷ bytes) ≡ first ∷ rest → (skip_blanks bytes ≡ first ∷ rest → is_blank first ≡ false) → is_blank first ≡ false
    by true b h go = go h
    by false b h go = let same : byte ≡ first = ap (λ l. elim l as (λ x. ℕ) [ [] ↦ 0 | x ∷ xs ↦ x ]) h in ap is_blank (sym same) ∙ b

front-alone : (first : ℕ) (rest : List ℕ) → is_blank first ≡ false → token_at (token_front (first ∷ rest)) ≡ Some (token_front (first ∷ rest), [])
front-alone first rest shows = subst (λ (w : List ℕ). token_at w ≡ Some (w, [])) (sym is) alone
  where
    is : token_front (first ∷ rest) ≡ first ∷ token_front rest
    is = cond-false (is_blank first) _ _ shows

    alone : token_at (first ∷ token_front rest) ≡ Some (first ∷ token_front rest, [])
    alone =
        ap first_token (cond-false (is_blank first) (skip_blanks (token_front rest)) (first ∷ token_front rest) shows)
        ∙ ap₂ (λ (x y : List ℕ). Some (x, y))
        (cond-false (is_blank first) [] (first ∷ token_front (token_front rest)) shows ∙ ap (λ l. first ∷ l) (token_front-again rest))
        (cond-false (is_blank first) (first ∷ token_front rest) (after_token (token_front rest)) shows ∙ after_token-front rest)

-- a token is the first token of its own bytes, and nothing follows it
pub token_at-token : (line : List ℕ) (token : List ℕ × List ℕ) → token_at line ≡ Some token → token_at token.0 ≡ Some (token.0, [])
token_at-token line token e = by (skip_blanks line) refl e
  where
    by : (left : List ℕ) → skip_blanks line ≡ left → first_token left ≡ Some token → token_at token.0 ≡ Some (token.0, [])
    by [] s h = absurd (cc)
    by (first ∷ rest) s h =
        let same : token_front (first ∷ rest) ≡ token.0 = ap found_of h in
        subst (λ (w : List ℕ). token_at w ≡ Some (w, [])) same (front-alone first rest (skipped-first line first rest s))
