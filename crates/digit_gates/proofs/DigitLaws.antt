-- Predecessors and comparisons of numbers in digits, digit by digit.
use Rattle.std.proofs.Common.{◌≡◌, refl, sym, ◌∙◌, ap, ℕ, zero, suc, ◌+◌, ◌*◌, ◌^◌, ◌/◌, ◌%◌, ◌<◌, ◌≤◌, ltb, ⊎_elim, Bool, true, false, cond, not, ◌&&◌, List, [], ◌∷◌, length, arith}
use Rattle.std.proofs.lemmas.Bool.{cases_lt, ltb-true, lt-ltb, le-ltb}
use Rattle.std.proofs.Math.Nat.{pow-succ'}
use Rattle.asp_base.proofs.Bools.{same_test}
use Rattle.gate_tables.specs.Rows.{differs}
use Rattle.gate_tables.specs.Tables.{less_step}
use Rattle.digit_gates.specs.Digits.{number, predecessor}

digit-few : (d : Bool) → cond d 1 0 ≤ 1
digit-few true = omega arith
digit-few false = omega arith

-- w digits have numbers below 2 ^ w
pub number-fits : (ds : List Bool) → number ds < 2 ^ length ds
number-fits [] = omega arith
number-fits (d ∷ ds) = omega (arith, number-fits ds, pow-succ' 2 (length ds), digit-few d)

-- the digits are those of one number only
pub number-same : (xs ys : List Bool) → length xs ≡ length ys → number xs ≡ number ys → xs ≡ ys
number-same [] [] e h = refl
number-same [] (y ∷ ys) e h = absurd (omega arith)
number-same (x ∷ xs) [] e h = absurd (omega arith)
number-same (true ∷ xs) (true ∷ ys) e h = ap (λ l. true ∷ l) (number-same xs ys (omega arith) (omega arith))
number-same (false ∷ xs) (false ∷ ys) e h = ap (λ l. false ∷ l) (number-same xs ys (omega arith) (omega arith))
number-same (true ∷ xs) (false ∷ ys) e h = absurd (omega arith)
number-same (false ∷ xs) (true ∷ ys) e h = absurd (omega arith)

-- and each such number has digits
pub digits-of : (w n : ℕ) → n < 2 ^ w → (ds : List Bool) × (length ds ≡ w) × (number ds ≡ n)
digits-of zero n h = ([], refl, omega arith)
digits-of (suc w) n h =
    let half : n / 2 < 2 ^ w = omega (arith, pow-succ' 2 w) in
    let rest : (ds : List Bool) × (length ds ≡ w) × (number ds ≡ n / 2) = digits-of w (n / 2) half in
    let value : number rest.0 ≡ n / 2 = rest.2 in
    ⊎_elim (λ (odd : 0 < n % 2). (true ∷ rest.0, ap suc rest.1, omega arith)) (λ (even : n % 2 ≤ 0). (false ∷ rest.0, ap suc rest.1, omega arith)) (cases_lt 0 (n % 2))

-- ---- the number less 1

-- less a borrow: a digit changes where all below it are 0
abbrev pub less_borrow : Bool → List Bool → List Bool
less_borrow borrow [] = []
less_borrow borrow (d ∷ ds) = differs d borrow ∷ less_borrow (borrow && not d) ds

no_borrow : (ds : List Bool) → number (less_borrow false ds) ≡ number ds
no_borrow [] = refl
no_borrow (true ∷ ds) = ap (λ n. 1 + 2 * n) (no_borrow ds)
no_borrow (false ∷ ds) = ap (λ n. 0 + 2 * n) (no_borrow ds)

-- one less, where it isn't 0
borrow-one : (ds : List Bool) → 0 < number ds → number (less_borrow true ds) + 1 ≡ number ds
borrow-one [] h = absurd (omega arith)
borrow-one (true ∷ ds) h = omega (arith, no_borrow ds)
borrow-one (false ∷ ds) h = let k : number (less_borrow true ds) + 1 ≡ number ds = borrow-one ds (omega arith) in omega arith

-- of 0 all digits become 1
borrow-none : (ds : List Bool) → number ds ≡ 0 → number (less_borrow true ds) + 1 ≡ 2 ^ length ds
borrow-none [] h = refl
borrow-none (true ∷ ds) h = absurd (omega arith)
borrow-none (false ∷ ds) h =
    let k : number (less_borrow true ds) + 1 ≡ 2 ^ length ds = borrow-none ds (omega arith) in
    omega (arith, pow-succ' 2 (length ds))

-- the digits less a borrow are the predecessor
pub borrow-says : (ds : List Bool) → number (less_borrow true ds) ≡ predecessor (length ds) (number ds)
borrow-says ds = go (number ds) refl
  where
    go : (n : ℕ) → number ds ≡ n → number (less_borrow true ds) ≡ predecessor (length ds) n
    go zero e = omega (arith, borrow-none ds e)
    go (suc n) e = let k : number (less_borrow true ds) + 1 ≡ number ds = borrow-one ds (omega arith) in omega arith

-- ---- comparisons

-- where the digits differ the second decides, else what the lower ones said
abbrev pub is_less_from : Bool → List Bool → List Bool → Bool
is_less_from below [] ys = below
is_less_from below (x ∷ xs) [] = below
is_less_from below (x ∷ xs) (y ∷ ys) = is_less_from (less_step x y below) xs ys

same_order : (a b c d : ℕ) → (a < b → c < d) → (c < d → a < b) → ltb a b ≡ ltb c d
same_order a b c d f g = same_test _ _ (λ h. lt-ltb c d (f (ltb-true a b h))) (λ h. lt-ltb a b (g (ltb-true c d h)))

-- the comparison says that x is below y, or is at most y where the lower digits are said to be below
pub is_less-says : (below : Bool) (xs ys : List Bool) → length xs ≡ length ys → is_less_from below xs ys ≡ ltb (number xs) (number ys + cond below 1 0)
is_less-says true [] [] e = sym (lt-ltb 0 1 (omega arith))
is_less-says false [] [] e = sym (le-ltb 0 0 (omega arith))
is_less-says below [] (y ∷ ys) e = absurd (omega arith)
is_less-says below (x ∷ xs) [] e = absurd (omega arith)
is_less-says below (true ∷ xs) (true ∷ ys) e =
    is_less-says below xs ys (omega arith) ∙ same_order _ _ _ _ (λ h. omega (arith, h, digit-few below)) (λ h. omega (arith, h, digit-few below))
is_less-says below (false ∷ xs) (false ∷ ys) e =
    is_less-says below xs ys (omega arith) ∙ same_order _ _ _ _ (λ h. omega (arith, h, digit-few below)) (λ h. omega (arith, h, digit-few below))
is_less-says below (false ∷ xs) (true ∷ ys) e =
    is_less-says true xs ys (omega arith) ∙ same_order _ _ _ _ (λ h. omega (arith, h, digit-few below)) (λ h. omega (arith, h, digit-few below))
is_less-says below (true ∷ xs) (false ∷ ys) e =
    is_less-says false xs ys (omega arith) ∙ same_order _ _ _ _ (λ h. omega (arith, h, digit-few below)) (λ h. omega (arith, h, digit-few below))

-- the whole comparison, from the least digits
pub less-says : (x y : Bool) (xs ys : List Bool) → length xs ≡ length ys → is_less_from (not x && y) xs ys ≡ ltb (number (x ∷ xs)) (number (y ∷ ys))
less-says x y xs ys e =
    let none : number (y ∷ ys) + 0 ≡ number (y ∷ ys) = omega arith in
    ap (λ b. is_less_from b xs ys) (first x y) ∙ is_less-says false (x ∷ xs) (y ∷ ys) (ap (λ n. suc n) e) ∙ ap (ltb (number (x ∷ xs))) none
  where
    first : (x y : Bool) → (not x && y) ≡ less_step x y false
    first true true = refl
    first true false = refl
    first false true = refl
    first false false = refl
