-- Lists of places that grow and shrink at their ends, and numbers that are written at some nodes.
use Rattle.std.proofs.Common.{◌≡◌, ◌≢◌, ℕ, zero, suc, ◌+◌, ◌<◌, ◌≤◌, ◌⊎◌, List, [], ◌∷◌, ◌++◌, length, take, set, get_or, arith, refl, sym, ◌∙◌, ap, subst, ⊎_elim, inl, inr}
use Rattle.std.proofs.lemmas.Bool.{cases_eq, cases_lt}
use Rattle.std.proofs.lemmas.List.{get_or_append_left, get_or_push, get_or-take, get_or-set_same, get_or-set_other, length-set, length-take, length_push}
use Rattle.graph_parts.specs.private.Searching.{Rising, Uncut, marked}

pub at-left : (xs : List ℕ) (y k : ℕ) → k < length xs → get_or (xs ++ (y ∷ [])) k 0 ≡ get_or xs k 0
at-left xs y k below = get_or_append_left xs (y ∷ []) 0 k below

pub at-end : (xs : List ℕ) (y : ℕ) → get_or (xs ++ (y ∷ [])) (length xs) 0 ≡ y
at-end xs y = get_or_push xs y 0 (length xs) refl

-- what holds of each element and its place holds after a push
pub each-push : (P : ℕ → ℕ → Type 0) (xs : List ℕ) (y : ℕ) → ((k : ℕ) → k < length xs → P k (get_or xs k 0)) → P (length xs) y → (k : ℕ) → k < length (xs ++ (y ∷ [])) → P k (get_or (xs ++ (y ∷ [])) k 0)
each-push P xs y each last k below =
    let long = length_push xs y in
    ⊎_elim (λ (low : k < length xs). subst (P k) (sym (at-left xs y k low)) (each k low))
    (λ (high : length xs ≤ k). let ends : k ≡ length xs = omega arith in
    subst (λ i. P i (get_or (xs ++ (y ∷ [])) i 0)) (sym ends) (subst (P (length xs)) (sym (at-end xs y)) last))
    (cases_lt k (length xs))

-- and of a front
pub each-take : (P : ℕ → ℕ → Type 0) (xs : List ℕ) (n : ℕ) → ((k : ℕ) → k < n → k < length xs → P k (get_or xs k 0)) → (k : ℕ) → k < length (take n xs) → P k (get_or (take n xs) k 0)
each-take P xs n each k below =
    let long = length-take n xs in
    let low : k < n = omega arith in
    subst (P k) (sym (get_or-take n xs k 0 low)) (each k low (omega arith))

pub rising-push : (xs : List ℕ) (limit : ℕ) → Rising xs limit → Rising (xs ++ (limit ∷ [])) (limit + 1)
rising-push xs limit rising = record {
  rises = λ i j less below. each-push (λ j y. (i : ℕ) → i < j → get_or (xs ++ (limit ∷ [])) i 0 < y) xs limit
      (λ j low i less. let left = at-left xs limit i (omega arith) in rw left (rising.rises i j less low))
      (λ i less. let left = at-left xs limit i less in rw left (rising.below i less))
      j below i less;
  below = each-push (λ i y. y < limit + 1) xs limit (λ i low. let b = rising.below i low in omega arith) (omega arith);
}

pub rising-take : (xs : List ℕ) (n limit : ℕ) → Rising xs limit → Rising (take n xs) limit
rising-take xs n limit rising = record {
  rises = λ i j less below. each-take (λ j y. (i : ℕ) → i < j → get_or (take n xs) i 0 < y) xs n
      (λ j under low i less. let left = get_or-take n xs i 0 (omega arith) in rw left (rising.rises i j less low))
      j below i less;
  below = each-take (λ i y. y < limit) xs n (λ i under low. rising.below i low);
}

pub rising-within : (xs : List ℕ) (limit new : ℕ) → Rising xs limit → ((i : ℕ) → i < length xs → get_or xs i 0 < new) → Rising xs new
rising-within xs limit new rising below = record { rises = rising.rises; below = below }

-- the last one is the greatest
pub rising-last : (xs : List ℕ) (limit last i : ℕ) → Rising xs limit → last + 1 ≡ length xs → i < length xs → get_or xs i 0 ≤ get_or xs last 0
rising-last xs limit last i rising ends below =
    ⊎_elim (λ (less : i < last). let r = rising.rises i last less (omega arith) in omega arith)
    (λ (least : last ≤ i). let same : i ≡ last = omega arith in subst (λ j. get_or xs j 0 ≤ get_or xs last 0) (sym same) (omega arith))
    (cases_lt i last)

-- without the last ones all are below it
pub rising-front : (xs : List ℕ) (limit last : ℕ) → Rising xs limit → last + 1 ≡ length xs → Rising (take last xs) (get_or xs last 0)
rising-front xs limit last rising ends = rising-within (take last xs) limit (get_or xs last 0) (rising-take xs last limit rising)
    (each-take (λ i y. y < get_or xs last 0) xs last (λ i under low. rising.rises i last under (omega arith)))

-- fewer bounds cut no more
pub uncut-take : (bounds : List ℕ) (n j k : ℕ) → Uncut bounds j k → Uncut (take n bounds) j k
uncut-take bounds n j k uncut = each-take (λ i y. y ≤ k → y ≤ j) bounds n (λ i under low. uncut i low)

-- whether a number stands in a list
pub stands : (u : ℕ) (xs : List ℕ) → ((k : ℕ) × (k < length xs) × (get_or xs k 0 ≡ u)) ⊎ ((k : ℕ) → k < length xs → get_or xs k 0 ≢ u)
stands u [] = inr (λ k below. absurd (omega arith))
stands u (x ∷ xs) =
    ⊎_elim (λ (here : x ≡ u). inl (0, omega arith, here))
    (λ (apart : x ≢ u). ⊎_elim
    (λ (there : (k : ℕ) × (k < length xs) × (get_or xs k 0 ≡ u)). inl (suc there.0, omega arith, there.2))
    (λ (none : (k : ℕ) → k < length xs → get_or xs k 0 ≢ u). inr (nowhere x xs apart none))
    (stands u xs))
    (cases_eq x u)
  where
    nowhere : (x : ℕ) (xs : List ℕ) → x ≢ u → ((k : ℕ) → k < length xs → get_or xs k 0 ≢ u) → (k : ℕ) → k < length (x ∷ xs) → get_or (x ∷ xs) k 0 ≢ u
    nowhere x xs apart none zero below = apart
    nowhere x xs apart none (suc k) below = none k (omega arith)

pub marked-length : (numbers : List ℕ) (number : ℕ) (nodes : List ℕ) → length (marked numbers number nodes) ≡ length numbers
marked-length numbers number [] = refl
marked-length numbers number (node ∷ nodes) = marked-length (set numbers node number) number nodes ∙ length-set numbers node number

pub marked-out : (numbers : List ℕ) (number : ℕ) (nodes : List ℕ) (u : ℕ) → ((k : ℕ) → k < length nodes → get_or nodes k 0 ≢ u) → get_or (marked numbers number nodes) u 0 ≡ get_or numbers u 0
marked-out numbers number [] u none = refl
marked-out numbers number (node ∷ nodes) u none =
    marked-out (set numbers node number) number nodes u (λ k below. none (suc k) (omega arith))
    ∙ get_or-set_other numbers node u number 0 (λ same. none 0 (omega arith) (sym same))

marked-kept : (numbers : List ℕ) (number : ℕ) (nodes : List ℕ) (u : ℕ) → u < length numbers → get_or numbers u 0 ≡ number → get_or (marked numbers number nodes) u 0 ≡ number
marked-kept numbers number [] u within is = is
marked-kept numbers number (node ∷ nodes) u within is =
    let long = length-set numbers node number in
    marked-kept (set numbers node number) number nodes u (omega arith)
    (⊎_elim (λ (same : u ≡ node). ap (λ i. get_or (set numbers node number) i 0) same ∙ get_or-set_same numbers node number 0 (omega arith))
    (λ (differ : u ≢ node). get_or-set_other numbers node u number 0 differ ∙ is)
    (cases_eq u node))

pub marked-in : (numbers : List ℕ) (number : ℕ) (nodes : List ℕ) → ((k : ℕ) → k < length nodes → get_or nodes k 0 < length numbers) → (k : ℕ) → k < length nodes → get_or (marked numbers number nodes) (get_or nodes k 0) 0 ≡ number
marked-in numbers number [] within k below = absurd (omega arith)
marked-in numbers number (node ∷ nodes) within zero below =
    let long = length-set numbers node number in
    let here : node < length numbers = within 0 (omega arith) in
    marked-kept (set numbers node number) number nodes node (omega arith) (get_or-set_same numbers node number 0 here)
marked-in numbers number (node ∷ nodes) within (suc k) below =
    let long = length-set numbers node number in
    marked-in (set numbers node number) number nodes (λ i under. let w = within (suc i) (omega arith) in subst (λ n. get_or nodes i 0 < n) (sym long) w) k (omega arith)
