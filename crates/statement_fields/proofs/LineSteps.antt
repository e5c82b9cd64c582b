-- Written lines, one after another, are read as what each of them adds to a state. A text is read from the number of a line
-- on, in a state, and so each line in front of other text is one step.
use Rattle.std.proofs.Common.{◌≡◌, refl, sym, ◌∙◌, ap, ℕ, suc, List, [], ◌∷◌, ◌++◌, append_assoc, append-nil}
use Rattle.std.specs.List.{AllByRecursion, flat_map}
use Rattle.asp_scan.specs.Lines.{Line, pieces_of, numbered}
use Rattle.asp_scan.specs.Words.{spaced, line_of, is_line, IsLine, IsWord}
use Rattle.asp_scan.proofs.LineText.{IsLine-append, numbered-written}
use Rattle.asp_scan.proofs.WordText.{spaced-not_blank, word-stays, IsWord-bytes}
use Rattle.ground_program.specs.Draft.{Draft, with_rule}
use Rattle.ground_program.specs.declared.program.Rule.{Rule}
use Rattle.statement_fields.specs.FieldWords.{spaced_before}
use Rattle.statement_fields.proofs.Spacing.{spaced-before}

-- a word, and what stands behind it, which may be a name with blanks
pub named-line : (first : List ℕ) (next : List ℕ) (more : List (List ℕ)) → IsWord first → IsLine (spaced_before (next ∷ more)) → IsLine (spaced (first ∷ next ∷ more))
named-line first next more word h = ap is_line (spaced-before first (next ∷ more)) ∙ IsLine-append first 32 (next ++ spaced_before more) (word-stays first (IsWord-bytes first word)) h

-- a line of words in front of other text
pub line-front : (n : ℕ) (first : List ℕ) (words : List (List ℕ)) (rest : List ℕ) → IsWord first → IsLine (spaced (first ∷ words))
    → numbered n (pieces_of (line_of (first ∷ words) ++ rest)) ≡ record { number = n; bytes = first ++ spaced_before words } ∷ numbered (suc n) (pieces_of rest)
line-front n first words rest word line =
    ap (λ text. numbered n (pieces_of text)) (append_assoc (spaced (first ∷ words)) (10 ∷ []) rest)
    ∙ numbered-written n (spaced (first ∷ words)) rest line (spaced-not_blank first words word)
    ∙ ap (λ (bytes : List ℕ). record { number = n; bytes = bytes } ∷ numbered (suc n) (pieces_of rest)) (spaced-before first words)

-- what the lines of a list add, one after another
abbrev pub steps : {S A : Type 0} → (A → S → S) → List A → S → S
steps step [] state = state
steps step (x ∷ xs) state = steps step xs (step x state)

pub rules-steps : (rules : List Rule) (d : Draft) → steps with_rule rules d ≡ record d { rules = d.rules ++ rules }
rules-steps [] d = ap (λ (xs : List Rule). record d { rules = xs }) (sym (append-nil d.rules))
rules-steps (x ∷ xs) d = rules-steps xs (with_rule x d) ∙ ap (λ (ys : List Rule). record d { rules = ys }) (append_assoc d.rules (x ∷ []) xs)

-- the number of the line behind so many lines
abbrev pub number_behind : {A : Type 0} → ℕ → List A → ℕ
number_behind n [] = n
number_behind n (x ∷ xs) = number_behind (suc n) xs

module _ {S R : Type 0} (read : S → List Line → R) where
  -- what a text says in a state, whose lines are numbered from here
  abbrev pub read_from : ℕ → S → List ℕ → R
  read_from n state text = read state (numbered n (pieces_of text))

  -- a line with its end, that adds this
  abbrev pub Adding : List ℕ → (S → S) → Type 0
  Adding line step = (n : ℕ) (state : S) (rest : List ℕ) → read_from n state (line ++ rest) ≡ read_from (suc n) (step state) rest

  -- a line of words, by what is read of it where its number is known
  pub line-adding : (first : List ℕ) (words : List (List ℕ)) (step : S → S) → IsWord first → IsLine (spaced (first ∷ words))
      → ((n : ℕ) (state : S) (lines : List Line) → read state (record { number = n; bytes = first ++ spaced_before words } ∷ lines) ≡ read (step state) lines)
      → Adding (line_of (first ∷ words)) step
  line-adding first words step word line says n state rest =
      ap (read state) (line-front n first words rest word line) ∙ says n state (numbered (suc n) (pieces_of rest))

  -- the lines of a list
  pub lines-read : {A : Type 0} (line : A → List ℕ) (step : A → S → S) (n : ℕ) (state : S) (xs : List A) (rest : List ℕ) → AllByRecursion (λ x. Adding (line x) (step x)) xs
      → read_from n state (flat_map line xs ++ rest) ≡ read_from (number_behind n xs) (steps step xs state) rest
  lines-read line step n state [] rest h = refl
  lines-read line step n state (x ∷ xs) rest h =
      ap (read_from n state) (append_assoc (line x) (flat_map line xs) rest)
      ∙ h.0 n state (flat_map line xs ++ rest)
      ∙ lines-read line step (suc n) (step x state) xs rest h.1
