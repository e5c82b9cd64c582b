-- The cells of a grid count: a row of thresholds becomes the next one.
use Rattle.std.proofs.Common.{◌≡◌, refl, sym, ◌∙◌, ap, ap₂, ℕ, zero, suc, ◌+◌, ◌*◌, ◌-◌, ◌≤◌, ◌<◌, Bool, true, false, cond, leb, ltb, ◌&&◌, ◌||◌, List, [], ◌∷◌, ◌++◌, length, ⊎_elim, arith}
use Rattle.std.proofs.lemmas.Bool.{le-leb, lt-leb, lt-ltb, ltb-true, ltb-false, cases_lt}
use Rattle.std.proofs.lemmas.List.{append-nil}
use Rattle.std.proofs.Math.Nat.{add-mul}
use Rattle.asp_base.proofs.Bools.{or_true, or_false, and_false}
use Rattle.counting_grid.specs.private.Rows.{thresholds, pair_values, last_value, next_values, row_low, row_length, cells}

length-thresholds : (low len n : ℕ) → length (thresholds low len n) ≡ len
length-thresholds low zero n = refl
length-thresholds low (suc len) n = ap suc (length-thresholds (suc low) len n)

-- the count with one more literal
abbrev pub with_one : Bool → ℕ → ℕ
with_one v n = cond v (suc n) n

-- at least j + 1, with one more literal
one_more : (j n : ℕ) (v : Bool) → (leb (suc j) n || (leb j n && v)) ≡ leb (suc j) (with_one v n)
one_more j n true =
    ⊎_elim
    (λ l. both (le-leb (suc j) n (omega arith)) (le-leb j n (omega arith))
    ∙ sym (le-leb (suc j) (suc n) (omega arith)))
    (λ l. ⊎_elim
    (λ m. both (lt-leb (suc j) n (omega arith)) (le-leb j n (omega arith))
    ∙ sym (le-leb (suc j) (suc n) (omega arith)))
    (λ m. both (lt-leb (suc j) n (omega arith)) (lt-leb j n (omega arith))
    ∙ sym (lt-leb (suc j) (suc n) (omega arith)))
    (cases_lt j (suc n)))
    (cases_lt j n)
  where
    both : {p q : Bool} → leb (suc j) n ≡ p → leb j n ≡ q
        → (leb (suc j) n || (leb j n && true)) ≡ (p || (q && true))
    both e f = ap₂ (λ p q. p || (q && true)) e f
one_more j n false =
    ap (λ t. leb (suc j) n || t) (and_false (leb j n)) ∙ or_false (leb (suc j) n)

pairs-are : (low len n : ℕ) (v : Bool)
    → pair_values (thresholds low (suc len) n) v ≡ thresholds (suc low) len (with_one v n)
pairs-are low zero n v = refl
pairs-are low (suc len) n v = ap₂ ◌∷◌ (one_more low n v) (pairs-are (suc low) len n v)

last-is : (low len n : ℕ) (v : Bool) → n ≤ low + len
    → last_value (thresholds low (suc len) n) v ≡ thresholds (suc low + len) 1 (with_one v n)
last-is low zero n v l =
    ap (λ b. b ∷ [])
    (sym (ap (λ t. t || (leb low n && v)) (lt-leb (suc low) n (omega arith))) ∙ one_more low n v)
    ∙ ap (λ m. thresholds m 1 (with_one v n)) (omega arith)
last-is low (suc len) n v l =
    last-is (suc low) len n v (omega arith)
    ∙ ap (λ m. thresholds m 1 (with_one v n)) (omega arith)

pub same_thresholds : (low high len more n : ℕ) → low ≡ high → len ≡ more
    → thresholds low len n ≡ thresholds high more n
same_thresholds low high len more n e f = ap₂ (λ a b. thresholds a b n) e f

thresholds-append : (low len more n : ℕ)
    → thresholds low len n ++ thresholds (low + len) more n ≡ thresholds low (len + more) n
thresholds-append low zero more n =
    same_thresholds (low + 0) low more (0 + more) n (omega arith) (omega arith)
thresholds-append low (suc len) more n =
    ap (λ bs. leb low n ∷ bs)
    (ap (λ bs. thresholds (suc low) len n ++ bs)
    (same_thresholds (low + suc len) (suc low + len) more more n (omega arith) refl)
    ∙ thresholds-append (suc low) len more n)
    ∙ same_thresholds low low (suc (len + more)) (suc len + more) n refl (omega arith)

-- ---- a row from the one before it, that is not empty

first-is : (n : ℕ) (v : Bool) → (leb 1 n || v) ≡ leb 1 (with_one v n)
first-is n true = or_true (leb 1 n) ∙ sym (le-leb 1 (suc n) (omega arith))
first-is n false = or_false (leb 1 n)

-- neither the first cell nor the last
inner : (low len n : ℕ) (v : Bool)
    → next_values false false (thresholds low (suc len) n) v
    ≡ thresholds (suc low) len (with_one v n)
inner low len n v =
    append-nil (pair_values (thresholds low (suc len) n) v) ∙ pairs-are low len n v

behind : (low len n : ℕ) (v : Bool) → n ≤ low + len
    → pair_values (thresholds low (suc len) n) v ++ last_value (thresholds low (suc len) n) v
    ≡ thresholds (suc low) (len + 1) (with_one v n)
behind low len n v l =
    ap₂ ◌++◌ (pairs-are low len n v) (last-is low len n v l)
    ∙ thresholds-append (suc low) len 1 (with_one v n)

with_first : (len n : ℕ) (v : Bool) → n ≤ suc len
    → next_values true true (thresholds 1 (suc len) n) v
    ≡ thresholds 1 (suc (len + 1)) (with_one v n)
with_first len n v l = ap₂ ◌∷◌ (first-is n v) (behind 1 len n v (omega arith))

beginning : (v : Bool) → next_values true true [] v ≡ thresholds 1 1 (with_one v 0)
beginning true = refl
beginning false = refl

-- ---- a row from the one before it

abbrev pub row_of : ℕ → ℕ → ℕ → ℕ → List Bool
row_of k w i n = thresholds (row_low w i) (row_length k w i) n

pub next-row : (k w i n : ℕ) (v f l : Bool) → 0 < k → 0 < w → i + 2 ≤ k + w → n ≤ i
    → ltb i w ≡ f → ltb i k ≡ l
    → next_values f l (row_of k w i n) v ≡ row_of k w (suc i) (with_one v n)
next-row k w zero n v f l ok ow m c ef el =
    ap₂ (λ f l. next_values f l (row_of k w 0 n) v)
    (sym ef ∙ lt-ltb 0 w ow) (sym el ∙ lt-ltb 0 k ok)
    ∙ ap (λ bs. next_values true true bs v)
    (same_thresholds (row_low w 0) 1 (row_length k w 0) 0 n (omega arith) (omega arith))
    ∙ beginning v
    ∙ ap (λ n. thresholds 1 1 (with_one v n)) (omega arith)
    ∙ same_thresholds 1 (row_low w 1) 1 (row_length k w 1) (with_one v n) (omega arith)
    (omega arith)
next-row k w (suc i) n v true true ok ow m c ef el =
    let a : suc i < w = ltb-true (suc i) w ef in
    let b : suc i < k = ltb-true (suc i) k el in
    let s : ℕ = suc (suc i) in
    ap (λ bs. next_values true true bs v)
    (same_thresholds (row_low w (suc i)) 1 (row_length k w (suc i)) (suc i) n (omega arith)
    (omega arith))
    ∙ with_first i n v c
    ∙ same_thresholds 1 (row_low w s) (suc (i + 1)) (row_length k w s) (with_one v n) (omega arith)
    (omega arith)
next-row k w (suc i) n v true false ok ow m c ef el =
    let a : suc i < w = ltb-true (suc i) w ef in
    let b : k ≤ suc i = ltb-false (suc i) k el in
    let s : ℕ = suc (suc i) in
    ap (λ bs. next_values true false bs v)
    (same_thresholds (row_low w (suc i)) 1 (row_length k w (suc i)) (suc (k - 1)) n (omega arith)
    (omega arith))
    ∙ ap₂ ◌∷◌ (first-is n v) (inner 1 (k - 1) n v)
    ∙ same_thresholds 1 (row_low w s) (suc (k - 1)) (row_length k w s) (with_one v n) (omega arith)
    (omega arith)
next-row k w (suc i) n v false true ok ow m c ef el =
    let a : w ≤ suc i = ltb-false (suc i) w ef in
    let b : suc i < k = ltb-true (suc i) k el in
    let low : ℕ = row_low w (suc i) in
    let s : ℕ = suc (suc i) in
    ap (λ bs. next_values false true bs v)
    (same_thresholds low low (row_length k w (suc i)) (suc (w - 1)) n refl (omega arith))
    ∙ behind low (w - 1) n v (omega arith)
    ∙ same_thresholds (suc low) (row_low w s) (w - 1 + 1) (row_length k w s) (with_one v n)
    (omega arith) (omega arith)
next-row k w (suc i) n v false false ok ow m c ef el =
    let a : w ≤ suc i = ltb-false (suc i) w ef in
    let b : k ≤ suc i = ltb-false (suc i) k el in
    let low : ℕ = row_low w (suc i) in
    let s : ℕ = suc (suc i) in
    ap (λ bs. next_values false false bs v)
    (same_thresholds low low (row_length k w (suc i)) (suc (k + w - s)) n refl (omega arith))
    ∙ inner low (k + w - s) n v
    ∙ same_thresholds (suc low) (row_low w s) (k + w - s) (row_length k w s) (with_one v n)
    (omega arith) (omega arith)

pub length-row_of : (k w i n : ℕ) → length (row_of k w i n) ≡ row_length k w i
length-row_of k w i n = length-thresholds (row_low w i) (row_length k w i) n

-- ---- how many cells

pub cells-more : (k w i : ℕ) → cells k w (suc i) ≡ cells k w i + row_length k w (suc i)
cells-more zero w i = omega arith
cells-more (suc k) w i =
    let h : cells k w (suc i) ≡ cells k w i + row_length k w (suc i) = cells-more k w i in
    omega arith

pub cells-all : (k w i : ℕ) → k + w ≤ suc i → cells k w i ≡ k * w
cells-all zero w i l = omega arith
cells-all (suc k) w i l =
    let h : cells k w i ≡ k * w = cells-all k w i (omega arith) in
    let m : (k + 1) * w ≡ k * w + 1 * w = add-mul k 1 w in
    let e : suc k * w ≡ (k + 1) * w = ap (λ x. x * w) (omega arith) in
    omega arith

pub cells-within : (k w i j : ℕ) → i ≤ j → cells k w i ≤ cells k w j
cells-within zero w i j l = omega arith
cells-within (suc k) w i j l =
    let h : cells k w i ≤ cells k w j = cells-within k w i j l in omega arith
