-- Numbers as keys: what is put together under a key are the values with that number.
use Rattle.std.proofs.Common.{◌≡◌, ℕ, zero, suc, ◌+◌, ◌<◌, ◌≤◌, Bool, true, false, ◌==◌, List, ◌∷◌, length, map, cond, arith, refl, sym, ◌∙◌, ap, subst}
use Rattle.std.specs.List.{filter, range_with_len}
use Rattle.std.proofs.lemmas.List.FromFn.{get_or-map-range_with_len, length-map-range_with_len}
use Rattle.graph_parts.specs.Groups.{pair_at, values_of}

picked-one : (b : Bool) (n x : ℕ) (rest : List (ℕ × ℕ)) (others : List ℕ) → map (λ p. p.1) rest ≡ others → map (λ p. p.1) (cond b ((n, x) ∷ rest) rest) ≡ cond b (x ∷ others) others
picked-one true n x rest others same = ap (λ l. x ∷ l) same
picked-one false n x rest others same = same

-- where each value has its number as its key
pub picked : (number value of : ℕ → ℕ) (key n a : ℕ) → ((j : ℕ) → a ≤ j → j < a + n → of (value j) ≡ number j) → values_of key (map (λ j. (number j, value j)) (range_with_len a n)) ≡ filter (λ x. of x == key) (map value (range_with_len a n))
picked number value of key zero a same = refl
picked number value of key (suc n) a same =
    picked-one (number a == key) (number a) (value a) _ _ (picked number value of key n (a + 1) (λ j low high. same j (omega arith) (omega arith)))
    ∙ ap (λ i. cond (i == key) (value a ∷ filter (λ x. of x == key) (map value (range_with_len (a + 1) n))) (filter (λ x. of x == key) (map value (range_with_len (a + 1) n)))) (sym (same a (omega arith) (omega arith)))

abbrev keyed : (ℕ → ℕ) → (ℕ → ℕ) → ℕ → List (ℕ × ℕ)
keyed number value n = map (λ j. (number j, value j)) (range_with_len 0 n)

-- the keys are the numbers
pub keys-below : (number value : ℕ → ℕ) (n limit : ℕ) → ((j : ℕ) → j < n → number j < limit) → (j : ℕ) → j < length (keyed number value n) → (pair_at (keyed number value n) j).0 < limit
keys-below number value n limit below j within =
    let long : length (keyed number value n) ≡ n = length-map-range_with_len (λ j. (number j, value j)) 0 n in
    let is : pair_at (keyed number value n) j ≡ (number j, value j) = get_or-map-range_with_len (λ j. (number j, value j)) 0 n j j (0, 0) (omega arith) (omega arith) in
    subst (λ (p : ℕ × ℕ). p.0 < limit) (sym is) (below j (omega arith))
