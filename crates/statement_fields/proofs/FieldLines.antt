-- Written fields are words, and lines of them are lines.
use Rattle.std.proofs.Common.{ℕ, ◌^◌, ◌≤◌, ◌<◌, ℤ, List, [], ◌∷◌, map, length, decimal, arith}
use Rattle.std.specs.Fmt.{signed_decimal}
use Rattle.std.specs.List.{AllByRecursion}
use Rattle.std.proofs.lemmas.Int.{ints}
use Rattle.asp_base.specs.Literal.{Literal, atom_of, integer_of}
use Rattle.asp_base.proofs.Each.{each-weaker, each-map, each-flat_map}
use Rattle.asp_scan.specs.Words.{IsLine, IsWord}
use Rattle.asp_scan.proofs.NoFeed.{stays-from_feeds}
use Rattle.asp_scan.proofs.NumberText.{small-is_word, natural-is_word}
use Rattle.asp_scan.proofs.WordText.{word-stays, IsWord-bytes}
use Rattle.ground_program.specs.Facts.{IsAtom, IsShort, IsPriority, FitsWeight, FitsBodyWeight, ConditionFits, ShowFits}
use Rattle.ground_program.specs.declared.program.Show.{Show}
use Rattle.statement_fields.specs.FieldWords.{literal_word, literal_words, item_words, atom_words, spaced_before}
use Rattle.statement_fields.proofs.FieldText.{spaced_before-line, spaced_before-line_more, literal-size, small-size, weight-size}

abbrev pub AreWords : List (List ℕ) → Type 0
AreWords words = AllByRecursion IsWord words

pub atom-is_word : (a : ℕ) → IsAtom a → IsWord (decimal a)
atom-is_word a h = let most : a ≤ 2 ^ 30 = h.1 in natural-is_word a (omega arith)

pub literal-is_word : (l : Literal) → atom_of l ≤ 2 ^ 31 → IsWord (literal_word l)
literal-is_word l most = small-is_word (integer_of l) (omega (arith, literal-size l, most))

pub weight-is_word : (w : ℤ) → FitsWeight w → IsWord (signed_decimal w)
weight-is_word w h = small-is_word w (omega (arith, weight-size w h))

pub body_weight-is_word : (w : ℤ) → FitsBodyWeight w → IsWord (signed_decimal w)
body_weight-is_word w h = weight-is_word w (omega (arith, ints, h.0), h.1)

pub priority-is_word : (p : ℤ) → IsPriority p → IsWord (signed_decimal p)
priority-is_word p h = small-is_word p (small-size p h.0 h.1)

pub count-is_word : {A : Type 0} (xs : List A) → IsShort xs → IsWord (decimal (length xs))
count-is_word xs h = let most : length xs ≤ 2 ^ 24 = h in natural-is_word (length xs) (omega arith)

pub atoms-are_words : (atoms : List ℕ) → IsShort atoms → AllByRecursion IsAtom atoms → AreWords (atom_words atoms)
atoms-are_words atoms short h = (count-is_word atoms short, each-map IsWord decimal atoms (each-weaker IsAtom (λ a. IsWord (decimal a)) atom-is_word atoms h))

-- an atom's number is at most 2^31
pub atom-most : (a : ℕ) → IsAtom a → a ≤ 2 ^ 31
atom-most a h = let most : a ≤ 2 ^ 30 = h.1 in omega arith

-- literals whose atoms fit, where each atom that fits is at most 2^31
module _ (Fits : ℕ → Type 0) (most : (a : ℕ) → Fits a → a ≤ 2 ^ 31) where
  pub literals-are_words : (lits : List Literal) → ConditionFits Fits lits → AreWords (literal_words lits)
  literals-are_words lits h = (
    count-is_word lits h.0,
    each-map IsWord literal_word lits (each-weaker (λ l. Fits (atom_of l)) (λ l. IsWord (literal_word l)) (λ l k. literal-is_word l (most (atom_of l) k)) lits h.1),
  )

  -- literals with weights that fit
  pub items-are_words : (Weighs : ℤ → Type 0) → ((w : ℤ) → Weighs w → IsWord (signed_decimal w)) → (items : List (Literal × ℤ)) → IsShort items
      → AllByRecursion (λ x. Fits (atom_of x.0) × Weighs x.1) items → AreWords (item_words items)
  items-are_words Weighs word items short h = (
    count-is_word items short,
    each-flat_map IsWord (λ x. literal_word x.0 ∷ signed_decimal x.1 ∷ []) items
        (each-weaker (λ x. Fits (atom_of x.0) × Weighs x.1) (λ x. AreWords (literal_word x.0 ∷ signed_decimal x.1 ∷ []))
        (λ x k. (literal-is_word x.0 (most (atom_of x.0) k.0), (word x.1 k.1, tt))) items h),
  )

  -- the fields of a show are a line, whatever its name has but line feeds
  pub show-line : (show : Show) → ShowFits Fits show → length show.name < 2 ^ 63
      → IsLine (spaced_before (decimal (length show.name) ∷ show.name ∷ literal_words show.condition))
  show-line show h short =
      let lits : List (List ℕ) = map literal_word show.condition in
      let count : List ℕ = decimal (length show.condition) in
      let size : List ℕ = decimal (length show.name) in
      let size_word : IsWord size = natural-is_word (length show.name) (omega arith) in
      let back : IsLine (spaced_before (count ∷ lits)) = spaced_before-line count lits (literals-are_words show.condition h.1) in
      let named : IsLine (spaced_before (show.name ∷ count ∷ lits)) = spaced_before-line_more show.name count lits (stays-from_feeds show.name h.0) back in
      spaced_before-line_more size show.name (count ∷ lits) (word-stays size (IsWord-bytes size size_word)) named
