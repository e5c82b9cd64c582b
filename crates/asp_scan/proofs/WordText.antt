-- Written words are read as tokens.
use Rattle.std.proofs.Common.{◌≡◌, refl, sym, ◌∙◌, ap, ap₂, ℕ, zero, suc, ◌≤◌, ◌<◌, ◌==◌, nat_le, true, false, not, ◌&&◌, ◌||◌, List, [], ◌∷◌, ◌++◌, length, length-append, Some, None, arith}
use Rattle.std.specs.List.{AllByRecursion, list_all}
use Rattle.std.proofs.lemmas.Bool.{and_parts, and_from, or_parts, true≢false, cond-true, cond-false, le-leb}
use Rattle.std.proofs.lemmas.List.{append-nil}
use Rattle.std.proofs.Math.Seq.{take-append_seam, drop-append_seam}
use Rattle.asp_scan.specs.Lines.{is_blank, is_blank_line}
use Rattle.asp_scan.specs.Tokens.{skip_blanks, token_front, after_token, token_at, bytes_from, tokens_within, tokens}
use Rattle.asp_scan.specs.Words.{spaced, stays_in_line, ends_with_return, is_word_byte, IsWord, IsLine, Ends}
use Rattle.asp_scan.proofs.LineText.{from_not-true, IsLine-append}
use Rattle.asp_scan.proofs.LineTokens.{first_token, none-left}

-- what is known of a byte of a word
pub record WordByte (byte : ℕ) : Type 0 where
  pub blank : is_blank byte ≡ false
  pub feed : (byte == 10) ≡ false
  pub return : (byte == 13) ≡ false

pub word_byte : (byte : ℕ) → is_word_byte byte ≡ true → WordByte byte
word_byte byte h =
    let none : (is_blank byte || (byte == 10) || (byte == 13)) ≡ false = from_not-true (is_blank byte || (byte == 10) || (byte == 13)) h in
    let parts : ((is_blank byte || (byte == 10)) ≡ false) × ((byte == 13) ≡ false) = or_parts (is_blank byte || (byte == 10)) (byte == 13) none in
    let two : (is_blank byte ≡ false) × ((byte == 10) ≡ false) = or_parts (is_blank byte) (byte == 10) parts.0 in
    record { blank = two.0; feed = two.1; return = parts.1 }

word-parts : (byte : ℕ) (bytes : List ℕ) → list_all is_word_byte (byte ∷ bytes) ≡ true → WordByte byte × (list_all is_word_byte bytes ≡ true)
word-parts byte bytes h = let parts : (is_word_byte byte ≡ true) × (list_all is_word_byte bytes ≡ true) = and_parts (is_word_byte byte) (list_all is_word_byte bytes) h in (word_byte byte parts.0, parts.1)

token_front-end : (rest : List ℕ) → Ends rest → token_front rest ≡ []
token_front-end [] e = refl
token_front-end (byte ∷ rest) e = cond-true (is_blank byte) _ _ e

after_token-end : (rest : List ℕ) → Ends rest → after_token rest ≡ rest
after_token-end [] e = refl
after_token-end (byte ∷ rest) e = cond-true (is_blank byte) _ _ e

pub token_front-word : (word rest : List ℕ) → list_all is_word_byte word ≡ true → Ends rest → token_front (word ++ rest) ≡ word
token_front-word [] rest h e = token_front-end rest e
token_front-word (byte ∷ word) rest h e =
    let parts = word-parts byte word h in cond-false (is_blank byte) [] _ parts.0.blank ∙ ap (λ l. byte ∷ l) (token_front-word word rest parts.1 e)

pub after_token-word : (word rest : List ℕ) → list_all is_word_byte word ≡ true → Ends rest → after_token (word ++ rest) ≡ rest
after_token-word [] rest h e = after_token-end rest e
after_token-word (byte ∷ word) rest h e = let parts = word-parts byte word h in cond-false (is_blank byte) _ _ parts.0.blank ∙ after_token-word word rest parts.1 e

-- what begins with no blank is left as it is
pub skip_blanks-word : (word rest : List ℕ) → IsWord word → skip_blanks (word ++ rest) ≡ word ++ rest
skip_blanks-word [] rest h = absurd (true≢false (sym h))
skip_blanks-word (byte ∷ word) rest h = cond-false (is_blank byte) _ _ (word-parts byte word h).0.blank

-- a word is the next token
pub token_at-word : (word rest : List ℕ) → IsWord word → Ends rest → token_at (word ++ rest) ≡ Some (word, rest)
token_at-word [] rest h e = absurd (true≢false (sym h))
token_at-word (byte ∷ word) rest h e =
    ap first_token (skip_blanks-word (byte ∷ word) rest h)
    ∙ ap₂ (λ x y. Some (x, y)) (token_front-word (byte ∷ word) rest h e) (after_token-word (byte ∷ word) rest h e)

-- also behind a space
pub token_at-spaced : (word rest : List ℕ) → IsWord word → Ends rest → token_at (32 ∷ (word ++ rest)) ≡ Some (word, rest)
token_at-spaced word rest h e = token_at-word word rest h e

-- a word that ends its line
pub token_at-last : (word : List ℕ) → IsWord word → token_at word ≡ Some (word, [])
token_at-last word h = ap token_at (sym (append-nil word)) ∙ token_at-word word [] h refl

-- ---- names

-- bytes behind one space are read back by their number
pub bytes_from-name : (name rest : List ℕ) → bytes_from (length name) (32 ∷ (name ++ rest)) ≡ Some (name, rest)
bytes_from-name name rest =
    cond-true (nat_le (length name) (length (name ++ rest))) _ None (le-leb (length name) (length (name ++ rest)) (omega (arith, length-append name rest)))
    ∙ ap₂ (λ x y. Some (x, y)) (take-append_seam name rest) (drop-append_seam name rest)

-- ---- lines of words

pub word-stays : (word : List ℕ) → list_all is_word_byte word ≡ true → list_all stays_in_line word ≡ true
word-stays [] h = refl
word-stays (byte ∷ word) h = let parts = word-parts byte word h in and_from _ _ (ap not parts.0.feed) (word-stays word parts.1)

pub IsWord-bytes : (word : List ℕ) → IsWord word → list_all is_word_byte word ≡ true
IsWord-bytes [] h = absurd (true≢false (sym h))
IsWord-bytes (byte ∷ word) h = h

word-end : (word : List ℕ) → list_all is_word_byte word ≡ true → ends_with_return word ≡ false
word-end [] h = refl
word-end (byte ∷ []) h = (word-parts byte [] h).0.return
word-end (byte ∷ next ∷ word) h = word-end (next ∷ word) (word-parts byte (next ∷ word) h).1

pub word-line : (word : List ℕ) → list_all is_word_byte word ≡ true → IsLine word
word-line word h = and_from _ _ (word-stays word h) (ap not (word-end word h))

-- words in front of a line that begins with a space
line-behind : (word rest : List ℕ) → IsWord word → IsLine (32 ∷ rest) → IsLine (word ++ (32 ∷ rest))
line-behind word rest h line = IsLine-append word 32 rest (word-stays word (IsWord-bytes word h)) line

-- a space in front of a line that has a byte
line-space : (line : List ℕ) → 0 < length line → IsLine line → IsLine (32 ∷ line)
line-space [] some h = absurd (omega arith)
line-space (byte ∷ bytes) some h = IsLine-append (32 ∷ []) byte bytes refl h

pub IsWord-some : (word : List ℕ) → IsWord word → 0 < length word
IsWord-some [] h = absurd (true≢false (sym h))
IsWord-some (byte ∷ word) h = omega arith

pub spaced-some : (word : List ℕ) (words : List (List ℕ)) → IsWord word → 0 < length (spaced (word ∷ words))
spaced-some word [] h = IsWord-some word h
spaced-some word (next ∷ words) h = omega (arith, IsWord-some word h, length-append word (32 ∷ spaced (next ∷ words)))

pub spaced-line : (words : List (List ℕ)) → AllByRecursion IsWord words → IsLine (spaced words)
spaced-line [] h = refl
spaced-line (word ∷ []) h = word-line word (IsWord-bytes word h.0)
spaced-line (word ∷ next ∷ words) h =
    line-behind word (spaced (next ∷ words)) h.0 (line-space (spaced (next ∷ words)) (spaced-some next words h.1.0) (spaced-line (next ∷ words) h.1))

word-not_blank : (word rest : List ℕ) → IsWord word → is_blank_line (word ++ rest) ≡ false
word-not_blank [] rest h = absurd (true≢false (sym h))
word-not_blank (byte ∷ word) rest h = ap (λ b. b && list_all is_blank (word ++ rest)) (word-parts byte word h).0.blank

pub spaced-not_blank : (word : List ℕ) (words : List (List ℕ)) → IsWord word → is_blank_line (spaced (word ∷ words)) ≡ false
spaced-not_blank word [] h = ap is_blank_line (sym (append-nil word)) ∙ word-not_blank word [] h
spaced-not_blank word (next ∷ words) h = word-not_blank word (32 ∷ spaced (next ∷ words)) h

word-token : (most : ℕ) (word rest : List ℕ) → IsWord word → Ends rest → tokens_within (suc most) (word ++ rest) ≡ word ∷ tokens_within most rest
word-token most word rest h e =
    ap (λ t. elim t as (λ x. List (List ℕ)) [ None ↦ [] | Some token ↦ token.0 ∷ tokens_within most token.1 ]) (token_at-word word rest h e)

blank-more : (most : ℕ) (line : List ℕ) → tokens_within most (32 ∷ line) ≡ tokens_within most line
blank-more zero line = refl
blank-more (suc most) line = refl

-- the tokens of spaced words are the words, where there are turns enough
pub spaced-within : (words : List (List ℕ)) (most : ℕ) → AllByRecursion IsWord words → length words ≤ most → tokens_within most (spaced words) ≡ words
spaced-within [] most h l = none-left most
spaced-within (word ∷ words) zero h l = absurd (omega arith)
spaced-within (word ∷ []) (suc most) h l =
    ap (tokens_within (suc most)) (sym (append-nil word)) ∙ (word-token most word [] h.0 refl ∙ ap (λ ts. word ∷ ts) (none-left most))
spaced-within (word ∷ next ∷ words) (suc most) h l =
    word-token most word (32 ∷ spaced (next ∷ words)) h.0 refl
    ∙ ap (λ ts. word ∷ ts) (blank-more most (spaced (next ∷ words)) ∙ spaced-within (next ∷ words) most h.1 (omega arith))

-- a line has at least as many bytes as words
pub spaced-long : (words : List (List ℕ)) → AllByRecursion IsWord words → length words ≤ length (spaced words)
spaced-long [] h = omega arith
spaced-long (word ∷ []) h = omega (arith, IsWord-some word h.0)
spaced-long (word ∷ next ∷ words) h =
    let some : 0 < length word = IsWord-some word h.0 in
    let rest : length (next ∷ words) ≤ length (spaced (next ∷ words)) = spaced-long (next ∷ words) h.1 in
    omega (arith, length-append word (32 ∷ spaced (next ∷ words)))

pub spaced-tokens : (words : List (List ℕ)) → AllByRecursion IsWord words → tokens (spaced words) ≡ words
spaced-tokens words h = spaced-within words (length (spaced words)) h (spaced-long words h)
