-- The place of an atom in a rising list, and the search for it.
use Rattle.std.proofs.Common.{◌≡◌, refl, sym, ◌∙◌, ap, ℕ, zero, suc, ◌+◌, ◌-◌, ◌<◌, ◌≤◌, ◌==◌, true, false, cond, List, [], ◌∷◌, length, get_or, Err, ⊎_elim, arith}
use Rattle.std.specs.List.Sorted.{IsStrictlyIncreasing, IsBinarySearchResult}
use Rattle.std.specs.Ordering.{nat_cmp}
use Rattle.std.proofs.lemmas.Bool.{or_cases, true≢false, eq-eqb, ne_eqb, cond_both, cond-true, cond-false, false_from_ne_true}
use Rattle.std.proofs.lemmas.Grind.{common_steps}
use Rattle.std.proofs.lemmas.List.Sorted.{searched}
use Rattle.asp_base.specs.Sets.{members}
use Rattle.std.specs.List.{AllByRecursion}
use Rattle.rising_numbers.specs.Rising.{RisesFrom, place}
use Rattle.rising_numbers.proofs.RisingLaws.{Ascends, members-at, index_of_member, above_index, rises_by}

-- a member has a place, from 1 to the length
pub place-within : (xs : List ℕ) (a : ℕ) → members xs a ≡ true → (0 < place xs a) × (place xs a ≤ length xs)
place-within [] a m = absurd (true≢false (sym m))
place-within (x ∷ xs) a m = cond_both (x == a) 1 (cond (members xs a) (suc (place xs a)) 0) (λ n. (0 < n) × (n ≤ suc (length xs)))
    (λ e. (omega arith, omega arith))
    (λ e. cond_both (members xs a) (suc (place xs a)) 0 (λ n. (0 < n) × (n ≤ suc (length xs)))
    (λ d. let h : place xs a ≤ length xs = (place-within xs a d).1 in (omega arith, omega arith))
    (λ d. absurd (⊎_elim (λ k. true≢false (sym k ∙ e)) (λ k. true≢false (sym k ∙ d)) (or_cases _ _ m))))

-- what is no member has the place 0
pub place-outside : (xs : List ℕ) (a : ℕ) → members xs a ≡ false → place xs a ≡ 0
place-outside [] a m = refl
place-outside (x ∷ xs) a m = grind (arith, common_steps)

-- the place of what stands at an index of a rising list
pub place-at : (low : ℕ) (xs : List ℕ) (i : ℕ) → RisesFrom low xs → i < length xs → place xs (get_or xs i 0) ≡ suc i
place-at low [] i r h = absurd (omega arith)
place-at low (x ∷ xs) zero r h = cond-true (x == x) _ _ (eq-eqb x x refl)
place-at low (x ∷ xs) (suc i) r h =
    let above : x + i < get_or xs i 0 = above_index x xs i r.1 (omega arith) in
    cond-false (x == get_or xs i 0) _ _ (ne_eqb x (get_or xs i 0) (λ e. omega arith))
    ∙ cond-true (members xs (get_or xs i 0)) _ _ (members-at xs i (omega arith))
    ∙ ap suc (place-at x xs i r.1 (omega arith))

-- an ascending list does not fall
rises : (xs : List ℕ) → IsStrictlyIncreasing xs → (i j : ℕ) → i ≤ j → j < length xs → get_or xs i 0 ≤ get_or xs j 0
rises xs up i j p q = let h : get_or xs i 0 + (j - i) ≤ get_or xs j 0 = rises_by xs up i j p q in omega arith

-- what a search in an ascending list does not find is no member
pub not_found : (xs : List ℕ) (x : ℕ) (i : ℕ) → IsBinarySearchResult (λ y. nat_cmp y x) xs (Err i) → IsStrictlyIncreasing xs → members xs x ≡ false
not_found xs x i h up =
    let s : (i ≤ length xs) × ((k : ℕ) → k < i → get_or xs k 0 < x) × ((k : ℕ) → i ≤ k → k < length xs → x < get_or xs k 0) = searched xs x (Err i) h (rises xs up) in
    false_from_ne_true (members xs x) (λ m.
    let r : (j : ℕ) × (j < length xs) × (get_or xs j 0 ≡ x) = index_of_member xs x m in
    grind (arith, common_steps, s.1 r.0, s.2 r.0, r.1, r.2))

-- the same wherever the list begins
pub place-at_index : (xs : List ℕ) (i : ℕ) → Ascends xs → i < length xs → place xs (get_or xs i 0) ≡ suc i
place-at_index [] i r h = absurd (omega arith)
place-at_index (x ∷ xs) zero r h = cond-true (x == x) _ _ (eq-eqb x x refl)
place-at_index (x ∷ xs) (suc i) r h =
    let above : x + i < get_or xs i 0 = above_index x xs i r (omega arith) in
    cond-false (x == get_or xs i 0) _ _ (ne_eqb x (get_or xs i 0) (λ e. omega arith))
    ∙ cond-true (members xs (get_or xs i 0)) _ _ (members-at xs i (omega arith))
    ∙ ap suc (place-at x xs i r (omega arith))

-- ---- how many numbers there are

pub length-rises : (low high : ℕ) (xs : List ℕ) → low ≤ high → RisesFrom low xs → AllByRecursion (λ a. a ≤ high) xs → low + length xs ≤ high
length-rises low high [] le r h = omega arith
length-rises low high (x ∷ xs) le r h =
    let above : low < x = r.0 in
    let k : x + length xs ≤ high = length-rises x high xs h.0 r.1 h.1 in
    omega arith
