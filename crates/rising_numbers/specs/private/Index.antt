-- What a search among rising numbers finds, and what an index to their places keeps.
use Rattle.std.specs.Prelude.{◌≡◌, ℕ, ◌+◌, ◌-◌, ◌*◌, ◌/◌, ◌<◌, ◌≤◌, ◌==◌, cond, false, List, length, slice_index, MatchOption, Some, None, ⊤}
use Rattle.std.specs.declared.option.Option.{Option}
use Rattle.asp_base.specs.Sets.{members}
use Rattle.rising_numbers.specs.declared.index.PlaceIndex.{PlaceIndex}
use Rattle.rising_numbers.specs.declared.index.PlaceIndex.TheVariants.{Counted, Blocks, Absent}

-- where a number stands, from 0; none just where it is not there
abbrev pub StandsAt : List ℕ → ℕ → Option ℕ → Type 0
StandsAt numbers number found =
    MatchOption found (members numbers number ≡ false)
    (λ i. (i < length numbers) × (slice_index numbers i ≡ number))

-- the numbers are those from 1 on
abbrev pub CountsFromOne : List ℕ → Type 0
CountsFromOne numbers = (i : ℕ) → i < length numbers → slice_index numbers i ≡ i + 1

-- the numbers below a bound stand before a place, the others from there on
pub record Splits (numbers : List ℕ) (bound at : ℕ) : Type 0 where
  pub within : at ≤ length numbers
  pub below : (i : ℕ) → i < at → slice_index numbers i < bound
  pub above : (i : ℕ) → at ≤ i → i < length numbers → bound ≤ slice_index numbers i

-- where each block of 32 numbers begins among the given ones; the last start lies behind them all
pub record AreStarts (numbers starts : List ℕ) : Type 0 where
  pub splits : (b : ℕ) → b < length starts → Splits numbers (32 * b) (slice_index starts b)
  pub some : 0 < length starts
  pub last : slice_index starts (length starts - 1) ≡ length numbers

-- where a number stands by the start of its block and its offset there; 255 is none
abbrev pub stands_by : List ℕ → List ℕ → ℕ → Option ℕ
stands_by starts offsets n =
    cond (slice_index offsets n == 255) None
    (Some (slice_index starts (n / 32) + slice_index offsets n))

-- every number is below a bound that is at most one more than the last
pub record IsBehind (numbers : List ℕ) (bound : ℕ) : Type 0 where
  pub below : (i : ℕ) → i < length numbers → slice_index numbers i < bound
  pub least : 0 < bound
      → (0 < length numbers) × (bound ≡ slice_index numbers (length numbers - 1) + 1)

-- the offsets of all numbers up to the greatest
pub record AreOffsets (numbers starts offsets : List ℕ) : Type 0 where
  pub within : (n : ℕ) → n < length offsets → n / 32 < length starts
  pub stands : (n : ℕ) → n < length offsets → StandsAt numbers n (stands_by starts offsets n)
  pub past : (n : ℕ) → length offsets ≤ n → members numbers n ≡ false

-- what an index says of the numbers
abbrev pub Indexes : List ℕ → PlaceIndex → Type 0
Indexes numbers Counted = CountsFromOne numbers
Indexes numbers (Blocks starts offsets) = AreOffsets numbers starts.items offsets.items
Indexes numbers Absent = ⊤
