-- Lines of numbers, as they are written.
use Rattle.std.proofs.Common.{◌≡◌, refl, sym, ◌∙◌, ap, ℕ, ℤ, List, [], ◌∷◌, ◌++◌, map, length, append_assoc, false, ◌==◌, codes}
use Rattle.std.specs.Fmt.{signed_decimal}
use Rattle.std.specs.List.{flat_map}
use Rattle.std.proofs.lemmas.Bool.{true≢false}
use Rattle.asp_scan.specs.Words.{line_of}
use Rattle.statement_fields.specs.FieldWords.{spaced_before}
use Rattle.statement_fields.proofs.LinePieces.{words-line}
use Rattle.asp_tools.specs.Sayings.{cost_lines}

abbrev pub piece : ℤ → List ℕ
piece n = 32 ∷ signed_decimal n

pub before-pieces : {A : Type 0} (word : A → List ℕ) (xs : List A) → spaced_before (map word xs) ≡ flat_map (λ x. 32 ∷ word x) xs
before-pieces word [] = refl
before-pieces word (x ∷ xs) = ap (λ rest. 32 ∷ (word x ++ rest)) (before-pieces word xs)

-- a line of a word and other words made of each entry
pub line-pieces : {A : Type 0} (first : List ℕ) (word : A → List ℕ) (xs : List A) → line_of (first ∷ map word xs) ≡ first ++ (flat_map (λ x. 32 ∷ word x) xs ++ (10 ∷ []))
line-pieces first word xs = sym (words-line first (map word xs)) ∙ ap (λ rest. first ++ (rest ++ (10 ∷ []))) (before-pieces word xs)

-- a line in three pieces
pub line-written : {A : Type 0} (old a b c first : List ℕ) (word : A → List ℕ) (xs : List A) → a ≡ old ++ first → b ≡ a ++ flat_map (λ x. 32 ∷ word x) xs → c ≡ b ++ (10 ∷ [])
    → c ≡ old ++ line_of (first ∷ map word xs)
line-written old a b c first word xs p q r =
    r ∙ (ap (λ s. s ++ (10 ∷ [])) (q ∙ ap (λ s. s ++ flat_map (λ x. 32 ∷ word x) xs) p)
    ∙ (ap (λ s. s ++ (10 ∷ [])) (append_assoc old first (flat_map (λ x. 32 ∷ word x) xs))
    ∙ (append_assoc old (first ++ flat_map (λ x. 32 ∷ word x) xs) (10 ∷ [])
    ∙ ap (λ s. old ++ s) (append_assoc first (flat_map (λ x. 32 ∷ word x) xs) (10 ∷ []) ∙ sym (line-pieces first word xs)))))

pub costs-line : (costs : List ℤ) → false ≡ (length costs == 0) → cost_lines costs ≡ line_of (codes "cost" ∷ map signed_decimal costs)
costs-line [] h = absurd (true≢false (sym h))
costs-line (cost ∷ costs) h = refl

-- the words of a cycle of a formula's edges
pub cycle-words : (xs : List ℤ) → line_of (codes "rejected" ∷ codes "cycle" ∷ map signed_decimal xs) ≡ line_of (codes "rejected cycle" ∷ map signed_decimal xs)
cycle-words xs = ap (λ s. codes "rejected " ++ s) (line-pieces (codes "cycle") signed_decimal xs) ∙ sym (line-pieces (codes "rejected cycle") signed_decimal xs)
