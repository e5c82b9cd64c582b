-- New digits, one after another, and the assignments that write numbers in them.
use Rattle.std.proofs.Common.{◌≡◌, refl, sym, ◌∙◌, ap, ap₂, subst, ℕ, zero, suc, ◌+◌, ◌≤◌, Bool, List, [], ◌∷◌, ◌++◌, length, arith}
use Rattle.std.specs.List.{AllByRecursion}
use Rattle.asp_base.specs.Literal.{Literal, Pos}
use Rattle.asp_base.specs.Sets.{Set}
use Rattle.clause_store.specs.Extension.{Agree}
use Rattle.clause_store.specs.Facts.{IsOver}
use Rattle.clause_store.specs.Gates.{values_at}
use Rattle.clause_store.specs.Models.{IsAssignment}
use Rattle.clause_store.specs.Stored.{Stored, with_variable}
use Rattle.clause_store.proofs.GateLaws.{with_value, with_value-agree, with_value-at, with_value-over, up_to-next}
use Rattle.clause_store.proofs.TableGates.{length-values}
use Rattle.digit_gates.specs.Digits.{number, number_at}
use Rattle.digit_gates.specs.DigitGates.{with_variables, variables_from, AreNewDigits}
use Rattle.digit_gates.proofs.DigitLaws.{number-same, digits-of}

pub with_none : (s : Stored) → s ≡ with_variables 0 s
with_none s = ap (λ n. record s { vars = n }) (omega arith)

pub with_one : (k : ℕ) (s : Stored) → with_variable (with_variables k s) ≡ with_variables (k + 1) s
with_one k s = ap (λ n. record s { vars = n }) (omega arith)

pub variables_from-push : (k n : ℕ) → variables_from k n ++ (Pos (suc (n + k)) ∷ []) ≡ variables_from (suc k) n
variables_from-push zero n = ap (λ m. Pos m ∷ []) (omega arith)
variables_from-push (suc k) n = ap (λ l. Pos (suc n) ∷ l) (ap (λ m. variables_from k (suc n) ++ (Pos m ∷ [])) (omega arith) ∙ variables_from-push k (suc n))

-- one digit more
pub next_digits : (k j : ℕ) → j ≡ suc k → (s now : Stored) (made more : List Literal) (l : Literal) → now ≡ with_variables k s → made ≡ variables_from k s.vars
    → l ≡ Pos (suc now.vars) → more ≡ made ++ (l ∷ []) → more ≡ variables_from j s.vars
next_digits k j q s now made more l e h p m = rw q
    (m ∙ (ap₂ (λ xs n. xs ++ (n ∷ [])) h (p ∙ ap (λ t. Pos (suc t.vars)) e) ∙ variables_from-push k s.vars))

-- ---- numbers in new digits

pub length-variables : (w n : ℕ) → length (variables_from w n) ≡ w
length-variables zero n = refl
length-variables (suc w) n = ap suc (length-variables w (suc n))

pub variables-over : (w n m : ℕ) → n + w ≤ m → AllByRecursion (IsOver m) (variables_from w n)
variables-over zero n m h = tt
variables-over (suc w) n m h = ((omega arith, omega arith), variables-over w (suc n) m (omega arith))

-- an assignment with values for further variables
abbrev with_values : ℕ → List Bool → Set → Set
with_values n [] A = A
with_values n (d ∷ ds) A = with_values (suc n) ds (with_value (suc n) d A)

with_values-agree : (n : ℕ) (ds : List Bool) (A : Set) → Agree n A (with_values n ds A)
with_values-agree n [] A v h = refl
with_values-agree n (d ∷ ds) A v h = with_value-agree n d A v h ∙ with_values-agree (suc n) ds (with_value (suc n) d A) v (omega arith)

with_values-over : (n m : ℕ) (ds : List Bool) (A : Set) → n + length ds ≡ m → IsAssignment n A → IsAssignment m (with_values n ds A)
with_values-over n m [] A e o = let same : n ≡ m = omega arith in subst (λ k. IsAssignment k A) same o
with_values-over n m (d ∷ ds) A e o = with_values-over (suc n) m ds (with_value (suc n) d A) (omega arith) (with_value-over n d A o)

with_values-values : (n : ℕ) (ds : List Bool) (A : Set) → values_at (with_values n ds A) (variables_from (length ds) n) ≡ ds
with_values-values n [] A = refl
with_values-values n (d ∷ ds) A =
    ap₂ ◌∷◌ (sym (with_values-agree (suc n) ds (with_value (suc n) d A) (suc n) (omega arith)) ∙ with_value-at n d A) (with_values-values (suc n) ds (with_value (suc n) d A))

-- assignments that agree on the values of the variables agree on them
values-back : (w n : ℕ) (A B : Set) → values_at A (variables_from w n) ≡ values_at B (variables_from w n) → Agree n A B → Agree (n + w) A B
values-back zero n A B e h v k = h v (omega arith)
values-back (suc w) n A B e h v k =
    let lists : (A (suc n) ∷ values_at A (variables_from w (suc n))) ≡ (B (suc n) ∷ values_at B (variables_from w (suc n))) = e in
    let first : A (suc n) ≡ B (suc n) = cc in
    let rest : values_at A (variables_from w (suc n)) ≡ values_at B (variables_from w (suc n)) = cc in
    values-back w (suc n) A B rest (λ u j. up_to-next n u j (λ m. A m ≡ B m) h first) v (omega arith)

pub digits-are : (w : ℕ) (s : Stored) → AreNewDigits w (variables_from w s.vars) s (with_variables w s)
digits-are w s = record {
  count = length-variables w s.vars;
  over = variables-over w s.vars (s.vars + w) (omega arith);
  some = λ A o n h.
      let ds : (ds : List Bool) × (length ds ≡ w) × (number ds ≡ n) = digits-of w n h in
      let B : Set = with_values s.vars ds.0 A in
      let value : number_at B (variables_from w s.vars) ≡ n = subst (λ k. number_at B (variables_from k s.vars) ≡ n) ds.1 (ap number (with_values-values s.vars ds.0 A) ∙ ds.2) in
      (B, with_values-over s.vars (s.vars + w) ds.0 A (ap (λ k. s.vars + k) ds.1) o, with_values-agree s.vars ds.0 A, value);
  one = λ A B h e. values-back w s.vars A B
      (number-same _ _ (length-values A (variables_from w s.vars) ∙ sym (length-values B (variables_from w s.vars))) e) h;
}
