-- Pairs of numbers that are compared: those of an atom's rules, by places in a list of digits.
use Rattle.std.specs.Prelude.{◌≡◌, ℕ, ◌<◌, List, [], map, length, slice_index_or}
use Rattle.std.specs.List.{AllByRecursion}
use Rattle.asp_base.specs.Literal.{Literal}
use Rattle.clause_store.specs.Facts.{IsOver}
use Rattle.level_ranking.specs.Encoding.{Row, body_list}
use Rattle.level_ranking.specs.declared.comparisons.First.{First}
use Rattle.level_ranking.specs.declared.comparisons.First.TheVariants.{Own, Other}

-- numbers of w digits over the first n variables
pub record IsPair (w n : ℕ) (pair : List Literal × List Literal) : Type 0 where
  pub some : 0 < length pair.0
  pub first : length pair.0 ≡ w
  pub second : length pair.1 ≡ w
  pub over_first : AllByRecursion (IsOver n) pair.0
  pub over_second : AllByRecursion (IsOver n) pair.1

-- the digits at a place of a list
abbrev pub digits_in : List (List Literal) → ℕ → List Literal
digits_in numbers i = slice_index_or numbers i []

-- a number and another, with the one or the other first
abbrev pub in_order : First → List Literal → List Literal → List Literal × List Literal
in_order Own x y = (x, y)
in_order Other x y = (y, x)

-- a number and each of those at these places
abbrev pub paired
    : First → List Literal → List (List Literal) → List ℕ → List (List Literal × List Literal)
paired first x numbers places = map (λ i. in_order first x (slice_index_or numbers i [])) places

-- The rule's body is over the first n variables, its atoms inside are places of the list, and their
-- numbers can be compared with x.
pub record CanSupport (n : ℕ) (x : List Literal) (numbers : List (List Literal)) (row : Row)
    : Type 0 where
  pub body : AllByRecursion (IsOver n) (body_list row.body)
  pub places : AllByRecursion (λ i. i < length numbers) row.inside
  pub below : AllByRecursion (IsPair (length x) n) (paired Own x numbers row.inside)
  pub near : AllByRecursion (IsPair (length x) n) (paired Other x numbers row.inside)

-- The rule's body is over the first n variables, and its atoms inside are places of the list at
-- which numbers of w digits stand.
pub record CanRank (n w : ℕ) (numbers : List (List Literal)) (row : Row) : Type 0 where
  pub body : AllByRecursion (IsOver n) (body_list row.body)
  pub places : AllByRecursion (λ i. i < length numbers) row.inside
  pub counts : AllByRecursion (λ i. length (digits_in numbers i) ≡ w) row.inside
  pub over : AllByRecursion (λ i. AllByRecursion (IsOver n) (digits_in numbers i)) row.inside
