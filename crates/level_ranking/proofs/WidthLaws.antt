-- A number is below the power of 2 of its binary digits.
use Rattle.std.proofs.Common.{◌≡◌, ◌∙◌, ap, subst, sym, ℕ, zero, suc, ◌*◌, ◌/◌, ◌≤◌, ◌<◌, ◌^◌, ⊎_elim, arith}
use Rattle.std.proofs.lemmas.Bool.{cases_lt}
use Rattle.std.proofs.Math.Nat.{pow-suc}
use Rattle.ground_program.specs.Digits.{digits}
use Rattle.ground_program.proofs.DigitLaws.{digits-zero, digits-step}

none : (n : ℕ) → n ≡ 0 → n < 2 ^ digits n
none n z =
    let d : digits n ≡ 0 = ap digits z ∙ digits-zero in
    subst (λ w. n < 2 ^ w) (sym d) (omega arith)

fits_within : (f n : ℕ) → n ≤ f → n < 2 ^ digits n
fits_within zero n h = none n (omega arith)
fits_within (suc f) n h = ⊎_elim
    (λ o.
    let i : n / 2 < 2 ^ digits (n / 2) = fits_within f (n / 2) (omega arith) in
    let p : 2 ^ suc (digits (n / 2)) ≡ 2 ^ digits (n / 2) * 2 = pow-suc 2 (digits (n / 2)) in
    subst (λ w. n < 2 ^ w) (sym (digits-step n o)) (omega arith))
    (λ z. none n (omega arith))
    (cases_lt 0 n)

pub digits-fit : (n : ℕ) → n < 2 ^ digits n
digits-fit n = fits_within n n (omega arith)

pub some_digit : (n : ℕ) → 0 < n → 0 < digits n
some_digit n h = let d : digits n ≡ suc (digits (n / 2)) = digits-step n h in omega arith
