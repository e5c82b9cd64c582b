-- What a search among rising numbers finds, and what an index to their places keeps.
use Rattle.std.proofs.Common.{◌≡◌, sym, ◌∙◌, ap, subst, ℕ, ◌+◌, ◌-◌, ◌*◌, ◌/◌, ◌<◌, ◌≤◌, ◌==◌, cond, true, false, Option, Some, None, MatchOption, List, [], ◌∷◌, ◌++◌, length, get_or, set, take, replicate, ⊎_elim, add-one, arith}
use Rattle.std.specs.List.Sorted.{IsStrictlyIncreasing}
use Rattle.std.proofs.lemmas.Bool.{cases_eq, cases_lt, cond-false, cond-true, eq-eqb, false_from_ne_true, ne_eqb}
use Rattle.std.proofs.lemmas.Grind.{common_steps}
use Rattle.std.proofs.lemmas.List.{get_or_append_left, get_or_push, length_push}
use Rattle.asp_base.specs.Sets.{members}
use Rattle.rising_numbers.specs.Rising.{place}
use Rattle.rising_numbers.specs.private.Index.{AreOffsets, AreStarts, CountsFromOne, IsBehind, Splits, StandsAt, stands_by}
use Rattle.rising_numbers.proofs.RisingLaws.{Ascends-from_increasing, members-at, index_of_member, rises_by}
use Rattle.rising_numbers.proofs.PlaceLaws.{place-at_index}

-- a number that stands at no index is no member
pub no_member : (xs : List ℕ) (a : ℕ) → ((i : ℕ) → i < length xs → get_or xs i 0 ≡ a → ⊥) → members xs a ≡ false
no_member xs a h = false_from_ne_true (members xs a) (λ m.
    let r : (i : ℕ) × (i < length xs) × (get_or xs i 0 ≡ a) = index_of_member xs a m in h r.0 r.1 r.2)

-- where a number stands is its place
pub stands-place : (xs : List ℕ) (a i : ℕ) → IsStrictlyIncreasing xs → (i < length xs) × (get_or xs i 0 ≡ a)
    → (i + 1 ≡ place xs a) × (0 < i + 1) × (i + 1 ≤ length xs)
stands-place xs a i up at =
    let within : i < length xs = at.0 in
    (add-one i ∙ (sym (place-at_index xs i (Ascends-from_increasing xs up) within) ∙ ap (place xs) at.1), omega arith, omega arith)

pub stands-member : (xs : List ℕ) (a i : ℕ) → (i < length xs) × (get_or xs i 0 ≡ a) → members xs a ≡ true
stands-member xs a i at = subst (λ z. members xs z ≡ true) at.1 (members-at xs i at.0)

-- ---- numbers from 1 on

pub counts : (xs : List ℕ) → IsStrictlyIncreasing xs → get_or xs 0 0 ≡ 1 → get_or xs (length xs - 1) 0 ≡ length xs → CountsFromOne xs
counts xs up first last i below =
    let low : get_or xs 0 0 + (i - 0) ≤ get_or xs i 0 = rises_by xs up 0 i (omega arith) below in
    let high : get_or xs i 0 + (length xs - 1 - i) ≤ get_or xs (length xs - 1) 0 = rises_by xs up i (length xs - 1) (omega arith) (omega arith) in
    omega arith

pub not_counted : (xs : List ℕ) (a : ℕ) → CountsFromOne xs → (0 < a → length xs < a) → members xs a ≡ false
not_counted xs a h outside = no_member xs a (λ i below e. let is : get_or xs i 0 ≡ i + 1 = h i below in omega (arith, outside))

-- ---- the blocks

-- the numbers before an index are in earlier blocks than those from there on
pub record Begun (numbers starts : List ℕ) (index : ℕ) : Type 0 where
  pub splits : (b : ℕ) → b < length starts → Splits numbers (32 * b) (get_or starts b 0)
  pub before : (i : ℕ) → i < index → get_or numbers i 0 < 32 * length starts

pub begun-more : (numbers starts : List ℕ) (index block : ℕ) → IsStrictlyIncreasing numbers → index < length numbers
    → Begun numbers starts index → block ≡ get_or numbers index 0 / 32 → length starts ≤ block
    → Begun numbers (take (block + 1) starts ++ replicate (block + 1 - length starts) index) (index + 1)
begun-more numbers starts index block up below b is later = record {
  splits = λ k h. ⊎_elim
      (λ old. subst (Splits numbers (32 * k)) (sym (first k old)) (b.splits k old))
      (λ new. subst (Splits numbers (32 * k)) (sym (then k new (omega (arith, size, h)))) (begins k new (omega (arith, size, h))))
      (cases_lt k (length starts));
  before = λ i h. let old : i < index → get_or numbers i 0 < 32 * length starts = b.before i in grind (arith, size, old);
}
  where
    made : List ℕ
    made = take (block + 1) starts ++ replicate (block + 1 - length starts) index

    size : length made ≡ block + 1
    size = grind (arith, common_steps)

    first : (k : ℕ) → k < length starts → get_or made k 0 ≡ get_or starts k 0
    first k old = grind (arith, common_steps)

    then : (k : ℕ) → length starts ≤ k → k < block + 1 → get_or made k 0 ≡ index
    then k new h = grind (arith, common_steps)

    begins : (k : ℕ) → length starts ≤ k → k < block + 1 → Splits numbers (32 * k) index
    begins k new h = record {
      within = omega arith;
      below = λ i low. let old : get_or numbers i 0 < 32 * length starts = b.before i low in omega arith;
      above = λ i high inside.
          let rise : get_or numbers index 0 + (i - index) ≤ get_or numbers i 0 = rises_by numbers up index i high inside in omega arith;
    }

pub begun-same : (numbers starts : List ℕ) (index : ℕ) → Begun numbers starts index
    → get_or numbers index 0 / 32 < length starts → Begun numbers starts (index + 1)
begun-same numbers starts index b within = record {
  splits = b.splits;
  before = λ i below. grind (arith, b.before i);
}

pub begun-all : (numbers starts : List ℕ) → Begun numbers starts (length numbers) → AreStarts numbers (starts ++ length numbers ∷ [])
begun-all numbers starts b = record {
  splits = λ k h. ⊎_elim
      (λ old. subst (Splits numbers (32 * k)) (sym (get_or_append_left starts (length numbers ∷ []) 0 k old)) (b.splits k old))
      (λ new. let is : length starts ≡ k = omega (arith, size, h) in
      subst (Splits numbers (32 * k)) (sym (get_or_push starts (length numbers) 0 k is)) record {
        within = omega arith;
        below = λ i low. let old : get_or numbers i 0 < 32 * length starts = b.before i low in omega arith;
        above = λ i high inside. absurd (omega arith);
      })
      (cases_lt k (length starts));
  some = omega (arith, size);
  last = get_or_push starts (length numbers) 0 _ (omega (arith, size));
}
  where
    size : length (starts ++ length numbers ∷ []) ≡ length starts + 1
    size = length_push starts (length numbers)

-- ---- offsets in blocks

-- one more than the last is above all
pub behind-last : (numbers : List ℕ) (last : ℕ) → IsStrictlyIncreasing numbers → 0 < length numbers → last ≡ get_or numbers (length numbers - 1) 0 → IsBehind numbers (last + 1)
behind-last numbers last up some is = record {
  below = λ i low. let rise : get_or numbers i 0 + (length numbers - 1 - i) ≤ get_or numbers (length numbers - 1) 0 = rises_by numbers up i (length numbers - 1) (omega arith) (omega arith) in omega (arith, rise, is);
  least = λ above. (some, omega (arith, is));
}

-- what is found among the first numbers
abbrev pub FoundAmong : List ℕ → ℕ → ℕ → Option ℕ → Type 0
FoundAmong numbers index n found =
    MatchOption found ((j : ℕ) → j < index → get_or numbers j 0 ≡ n → ⊥)
    (λ j. (j < index) × (get_or numbers j 0 ≡ n))

-- the offsets of the first numbers
abbrev pub Offset : List ℕ → List ℕ → ℕ → List ℕ → Type 0
Offset numbers starts index offsets = (n : ℕ) → n < length offsets → FoundAmong numbers index n (stands_by starts offsets n)

-- the next number stands behind the start of its block, and not far
pub start-before : (numbers starts : List ℕ) (index : ℕ) → IsStrictlyIncreasing numbers → AreStarts numbers starts → index < length numbers
    → (get_or numbers index 0 / 32 < length starts) × (get_or starts (get_or numbers index 0 / 32) 0 ≤ index) × (index - get_or starts (get_or numbers index 0 / 32) 0 < 32)
start-before numbers starts index up a below = (within, before, near)
  where
    number : ℕ
    number = get_or numbers index 0

    within : number / 32 < length starts
    within =
        let some : 0 < length starts = a.some in
        let all : get_or starts (length starts - 1) 0 ≡ length numbers = a.last in
        let low : get_or numbers index 0 < 32 * (length starts - 1) = (a.splits (length starts - 1) (omega arith)).below index (omega arith) in
        omega arith

    one : Splits numbers (32 * (number / 32)) (get_or starts (number / 32) 0)
    one = a.splits (number / 32) within

    before : get_or starts (number / 32) 0 ≤ index
    before = ⊎_elim
        (λ (late : index < get_or starts (number / 32) 0). let low : get_or numbers index 0 < 32 * (number / 32) = one.below index late in absurd (omega arith))
        (λ le. le)
        (cases_lt index (get_or starts (number / 32) 0))

    near : index - get_or starts (number / 32) 0 < 32
    near =
        let first : 32 * (number / 32) ≤ get_or numbers (get_or starts (number / 32) 0) 0 = one.above (get_or starts (number / 32) 0) (omega arith) (omega (arith, before)) in
        let rise : get_or numbers (get_or starts (number / 32) 0) 0 + (index - get_or starts (number / 32) 0) ≤ number = rises_by numbers up (get_or starts (number / 32) 0) index before below in
        omega arith

pub offset-none : (numbers starts offsets : List ℕ) → ((n : ℕ) → n < length offsets → get_or offsets n 0 ≡ 255) → Offset numbers starts 0 offsets
offset-none numbers starts offsets all n below =
    subst (FoundAmong numbers 0 n) (sym (cond-true (get_or offsets n 0 == 255) None (Some (get_or starts (n / 32) 0 + get_or offsets n 0)) (eq-eqb (get_or offsets n 0) 255 (all n below)))) (λ j low. absurd (omega arith))

pub offset-more : (numbers starts offsets : List ℕ) (index : ℕ) → IsStrictlyIncreasing numbers → AreStarts numbers starts → index < length numbers
    → get_or numbers index 0 < length offsets → Offset numbers starts index offsets
    → Offset numbers starts (index + 1) (set offsets (get_or numbers index 0) (index - get_or starts (get_or numbers index 0 / 32) 0))
offset-more numbers starts offsets index up a below inside so_far n h = ⊎_elim
    (λ (same : n ≡ number). subst (FoundAmong numbers (index + 1) n) (sym (here same)) (omega arith, sym same))
    (λ (other : n ≡ number → ⊥). subst (FoundAmong numbers (index + 1) n) (sym (there other)) (more (stands_by starts offsets n) other (so_far n (omega (arith, size, h)))))
    (cases_eq n number)
  where
    number : ℕ
    number = get_or numbers index 0

    offset : ℕ
    offset = index - get_or starts (number / 32) 0

    near : (number / 32 < length starts) × (get_or starts (number / 32) 0 ≤ index) × (offset < 32)
    near = start-before numbers starts index up a below

    size : length (set offsets number offset) ≡ length offsets
    size = grind (arith, common_steps)

    here : n ≡ number → stands_by starts (set offsets number offset) n ≡ Some index
    here same =
        let is : get_or (set offsets number offset) n 0 ≡ offset = grind (arith, common_steps, same, inside) in
        let place : get_or starts (n / 32) 0 + get_or (set offsets number offset) n 0 ≡ index = omega (arith, is, near.1, ap (λ m. get_or starts (m / 32) 0) same) in
        cond-false (get_or (set offsets number offset) n 0 == 255) None (Some (get_or starts (n / 32) 0 + get_or (set offsets number offset) n 0))
        (ne_eqb (get_or (set offsets number offset) n 0) 255 (λ e. omega (arith, is, e, near.2)))
        ∙ ap Some place

    there : (n ≡ number → ⊥) → stands_by starts (set offsets number offset) n ≡ stands_by starts offsets n
    there other =
        let is : get_or (set offsets number offset) n 0 ≡ get_or offsets n 0 = grind (arith, common_steps, other) in
        ap (λ m. cond (m == 255) None (Some (get_or starts (n / 32) 0 + m))) is

    more : (found : Option ℕ) → (n ≡ number → ⊥) → FoundAmong numbers index n found → FoundAmong numbers (index + 1) n found
    more None other none = λ j low e. ⊎_elim
        (λ (old : j < index). none j old e)
        (λ (last : index ≤ j). let is : j ≡ index = omega arith in other (sym e ∙ ap (λ k. get_or numbers k 0) is))
        (cases_lt j index)
    more (Some j) other at = (omega (arith, at.0), at.1)

pub offsets-all : (numbers starts offsets : List ℕ) → IsStrictlyIncreasing numbers → AreStarts numbers starts → IsBehind numbers (length offsets) → Offset numbers starts (length numbers) offsets → AreOffsets numbers starts offsets
offsets-all numbers starts offsets up a behind all = record {
  within = λ n below.
      let least = behind.least (omega arith) in
      let near : (get_or numbers (length numbers - 1) 0 / 32 < length starts) × (get_or starts (get_or numbers (length numbers - 1) 0 / 32) 0 ≤ length numbers - 1) × (length numbers - 1 - get_or starts (get_or numbers (length numbers - 1) 0 / 32) 0 < 32) =
      start-before numbers starts (length numbers - 1) up a (omega (arith, least.0)) in
      omega (arith, below, least.1, near.0);
  stands = λ n below. found (stands_by starts offsets n) n (all n below);
  past = λ n above. no_member numbers n (λ i below e. let low : get_or numbers i 0 < length offsets = behind.below i below in omega (arith, low, e, above));
}
  where
    found : (f : Option ℕ) (n : ℕ) → FoundAmong numbers (length numbers) n f → StandsAt numbers n f
    found None n none = no_member numbers n none
    found (Some j) n at = at
