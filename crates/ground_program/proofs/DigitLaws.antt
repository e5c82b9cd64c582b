-- The number of binary digits, by halves.
use Rattle.std.proofs.Common.{◌≡◌, refl, sym, ◌∙◌, ap, subst, ℕ, zero, suc, ◌*◌, ◌/◌, ◌≤◌, ◌<◌, ◌==◌, ◌^◌, cond, ⊎_elim, arith}
use Rattle.std.proofs.lemmas.Bool.{cases_lt, eq-eqb, ne_eqb, cond-true, cond-false}
use Rattle.std.proofs.Math.Nat.{pow-suc}
use Rattle.ground_program.specs.Digits.{digits_within, digits}

-- more steps change nothing
within-more : (f g n : ℕ) → n ≤ f → n ≤ g → digits_within f n ≡ digits_within g n
within-more zero zero n i j = refl
within-more zero (suc g) n i j =
    sym (cond-true (n == 0) 0 (suc (digits_within g (n / 2))) (eq-eqb n 0 (omega arith)))
within-more (suc f) zero n i j =
    cond-true (n == 0) 0 (suc (digits_within f (n / 2))) (eq-eqb n 0 (omega arith))
within-more (suc f) (suc g) n i j =
    ap (λ d. cond (n == 0) 0 (suc d)) (within-more f g (n / 2) (omega arith) (omega arith))

pub digits-zero : digits 0 ≡ 0
unfolding digits
digits-zero = refl

pub digits-step : (n : ℕ) → 0 < n → digits n ≡ suc (digits (n / 2))
unfolding digits
digits-step zero o = absurd (omega arith)
digits-step (suc n) o =
    cond-false (suc n == 0) 0 (suc (digits_within n (suc n / 2)))
    (ne_eqb (suc n) 0 (λ e. omega arith))
    ∙ ap suc (within-more n (suc n / 2) (suc n / 2) (omega arith) (omega arith))

mono_within : (f m n : ℕ) → n ≤ f → m ≤ n → digits m ≤ digits n
mono_within zero m n i j =
    let e : m ≡ n = omega arith in subst (λ k. digits m ≤ digits k) e (omega arith)
mono_within (suc f) m n i j =
    ⊎_elim (λ o.
    let p : digits m ≡ suc (digits (m / 2)) = digits-step m o in
    let q : digits n ≡ suc (digits (n / 2)) = digits-step n (omega arith) in
    let h : digits (m / 2) ≤ digits (n / 2) =
    mono_within f (m / 2) (n / 2) (omega arith) (omega arith) in
    omega arith)
    (λ z.
    let e : m ≡ 0 = omega arith in
    let d : digits m ≡ 0 = ap digits e ∙ digits-zero in
    omega arith)
    (cases_lt 0 m)

pub digits-mono : (m n : ℕ) → m ≤ n → digits m ≤ digits n
digits-mono m n l = mono_within n m n (omega arith) l

pub digits-below : (k n : ℕ) → n < 2 ^ k → digits n ≤ k
digits-below zero n l =
    let z : n ≡ 0 = omega arith in
    let d : digits n ≡ 0 = ap digits z ∙ digits-zero in
    omega arith
digits-below (suc k) n l =
    ⊎_elim (λ o.
    let d : digits n ≡ suc (digits (n / 2)) = digits-step n o in
    let p : 2 ^ suc k ≡ 2 ^ k * 2 = pow-suc 2 k in
    let h : digits (n / 2) ≤ k = digits-below k (n / 2) (omega arith) in
    omega arith)
    (λ z.
    let e : n ≡ 0 = omega arith in
    let d : digits n ≡ 0 = ap digits e ∙ digits-zero in
    omega arith)
    (cases_lt 0 n)
