-- Lines, as they are put together.
use Rattle.std.proofs.Common.{◌≡◌, ◌∙◌, sym, ap, ap₂, ℕ, List, [], ◌∷◌, ◌++◌, append_assoc, Result, Ok, Err, OnOk}
use Rattle.asp_scan.specs.Words.{line_of}
use Rattle.statement_fields.specs.FieldWords.{spaced_before}
use Rattle.statement_fields.proofs.Spacing.{spaced-before, spaced_before-append}

-- ---- appends, one after another

pub two_appends : (old o1 o2 a b : List ℕ) → o1 ≡ old ++ a → o2 ≡ o1 ++ b → o2 ≡ old ++ (a ++ b)
two_appends old o1 o2 a b p q = q ∙ ap (λ bytes. bytes ++ b) p ∙ append_assoc old a b

pub three_appends : (old o1 o2 o3 a b c : List ℕ) → o1 ≡ old ++ a → o2 ≡ o1 ++ b → o3 ≡ o2 ++ c → o3 ≡ old ++ (a ++ (b ++ c))
three_appends old o1 o2 o3 a b c p q r = rw (r, q, p) (simp append_assoc)

pub four_appends : (old o1 o2 o3 o4 a b c d : List ℕ) → o1 ≡ old ++ a → o2 ≡ o1 ++ b → o3 ≡ o2 ++ c → o4 ≡ o3 ++ d → o4 ≡ old ++ (a ++ (b ++ (c ++ d)))
four_appends old o1 o2 o3 o4 a b c d p q r s = rw (s, r, q, p) (simp append_assoc)

pub five_appends : (old o1 o2 o3 o4 o5 a b c d e : List ℕ) → o1 ≡ old ++ a → o2 ≡ o1 ++ b → o3 ≡ o2 ++ c → o4 ≡ o3 ++ d → o5 ≡ o4 ++ e
    → o5 ≡ old ++ (a ++ (b ++ (c ++ (d ++ e))))
five_appends old o1 o2 o3 o4 o5 a b c d e p q r s t = rw (t, s, r, q, p) (simp append_assoc)

-- the last of which may have failed
pub two_appends-ok : {T E : Type 0} (r : Result T E) (old o1 o2 a b all : List ℕ) → o1 ≡ old ++ a → all ≡ a ++ b → OnOk r (o2 ≡ o1 ++ b) → OnOk r (o2 ≡ old ++ all)
two_appends-ok (Ok x) old o1 o2 a b all p e q = two_appends old o1 o2 a b p q ∙ ap (λ bytes. old ++ bytes) (sym e)
two_appends-ok (Err x) old o1 o2 a b all p e q = q

pub four_appends-ok : {T E : Type 0} (r : Result T E) (old o1 o2 o3 o4 a b c d all : List ℕ)
    → o1 ≡ old ++ a → o2 ≡ o1 ++ b → o3 ≡ o2 ++ c → all ≡ a ++ (b ++ (c ++ d)) → OnOk r (o4 ≡ o3 ++ d) → OnOk r (o4 ≡ old ++ all)
four_appends-ok (Ok x) old o1 o2 o3 o4 a b c d all p q r e s = four_appends old o1 o2 o3 o4 a b c d p q r s ∙ ap (λ bytes. old ++ bytes) (sym e)
four_appends-ok (Err x) old o1 o2 o3 o4 a b c d all p q r e s = s

-- what was appended was made of two parts, which are these
pub made_of_two : {A B : Type 0} (made : A → B → List ℕ) (old now all : List ℕ) (a x : A) (b y : B) → now ≡ old ++ made a b → a ≡ x → b ≡ y → made x y ≡ all → now ≡ old ++ all
made_of_two made old now all a x b y is a_is b_is e = is ∙ ap (λ bytes. old ++ bytes) (ap₂ made a_is b_is ∙ e)

-- ---- lines of what was appended

-- a word, words behind it, and the end of the line
pub words-line : (first : List ℕ) (words : List (List ℕ)) → first ++ (spaced_before words ++ (10 ∷ [])) ≡ line_of (first ∷ words)
words-line first words =
    sym (ap (λ bytes. bytes ++ (10 ∷ [])) (spaced-before first words) ∙ append_assoc first (spaced_before words) (10 ∷ []))

-- two lists of words
pub two_lists-line : (first : List ℕ) (xs ys : List (List ℕ)) → first ++ (spaced_before xs ++ (spaced_before ys ++ (10 ∷ []))) ≡ line_of (first ∷ (xs ++ ys))
two_lists-line first xs ys =
    ap (λ bytes. first ++ bytes) (sym (append_assoc (spaced_before xs) (spaced_before ys) (10 ∷ [])) ∙ ap (λ bytes. bytes ++ (10 ∷ [])) (sym (spaced_before-append xs ys)))
    ∙ words-line first (xs ++ ys)

-- one more word, and words
pub one_more-line : (first u : List ℕ) (words : List (List ℕ)) → first ++ ((32 ∷ u) ++ (spaced_before words ++ (10 ∷ []))) ≡ line_of (first ∷ u ∷ words)
one_more-line first u words = ap (λ bytes. first ++ bytes) (sym (append_assoc (32 ∷ u) (spaced_before words) (10 ∷ []))) ∙ words-line first (u ∷ words)

-- two more words, one after the other, and words
pub two_words-line : (first u v : List ℕ) (words : List (List ℕ)) → first ++ ((32 ∷ u) ++ ((32 ∷ v) ++ (spaced_before words ++ (10 ∷ [])))) ≡ line_of (first ∷ u ∷ v ∷ words)
two_words-line first u v words =
    ap (λ bytes. first ++ ((32 ∷ u) ++ bytes)) (sym (append_assoc (32 ∷ v) (spaced_before words) (10 ∷ []))) ∙ one_more-line first u (v ∷ words)

-- two more words, and words
pub two_more-line : (first u v : List ℕ) (words : List (List ℕ)) → (first ++ ((32 ∷ u) ++ (32 ∷ v))) ++ (spaced_before words ++ (10 ∷ [])) ≡ line_of (first ∷ u ∷ v ∷ words)
two_more-line first u v words = shape first (32 ∷ u) (32 ∷ v) (spaced_before words) (10 ∷ []) ∙ words-line first (u ∷ v ∷ words)
  where
    shape : (a b c d e : List ℕ) → (a ++ (b ++ c)) ++ (d ++ e) ≡ a ++ ((b ++ (c ++ d)) ++ e)
    shape a b c d e = simp append_assoc

-- one more word at the front, and words
pub front_more-line : (first u : List ℕ) (words : List (List ℕ)) → (first ++ (32 ∷ u)) ++ (spaced_before words ++ (10 ∷ [])) ≡ line_of (first ∷ u ∷ words)
front_more-line first u words = append_assoc first (32 ∷ u) (spaced_before words ++ (10 ∷ [])) ∙ one_more-line first u words
