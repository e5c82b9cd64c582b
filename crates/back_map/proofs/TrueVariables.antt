-- The variables that a table says are true, one more at a time.
use Rattle.std.proofs.Common.{◌≡◌, sym, ◌∙◌, ap, ℕ, zero, suc, ◌+◌, ◌<◌, ◌≤◌, ◌==◌, nat_lt, Bool, true, false, ◌&&◌, ◌||◌, List, [], ◌∷◌, ◌++◌, ◌⊎◌, inl, inr, length, get_or, Option, None, arith}
use Rattle.std.specs.List.{AllByRecursion}
use Rattle.std.proofs.lemmas.Bool.{lt-ltb, le-ltb, cases_lt}
use Rattle.std.proofs.lemmas.Bool.Decides.{nat_tests}
use Rattle.std.proofs.lemmas.List.{get_or_past}
use Rattle.std.proofs.lemmas.List.Folds.{list_any-append}
use Rattle.asp_base.specs.Literal.{Pos}
use Rattle.asp_base.specs.Sets.{members}
use Rattle.asp_base.proofs.Bools.{or_false}
use Rattle.asp_base.proofs.Each.{each-push}
use Rattle.back_map.specs.private.Reading.{agrees}

-- those below i
pub record SoFar (vars : ℕ) (values : List (Option Bool)) (i : ℕ) (done : List ℕ) : Type 0 where
  pub over : AllByRecursion (λ v. (0 < v) × (v ≤ vars)) done
  pub is : (v : ℕ) → members done v ≡ (nat_lt v i && agrees (Pos v) (get_or values v None))

-- below i + 1 is below i, or at i
at-next : (A : ℕ → Bool) (i v : ℕ) → A i ≡ true → (nat_lt v i && A v || (i == v)) ≡ (nat_lt v (i + 1) && A v)
at-next A i v is = grind (arith, nat_tests, is)

at-same : (A : ℕ → Bool) (i v : ℕ) → A i ≡ false → (nat_lt v i && A v) ≡ (nat_lt v (i + 1) && A v)
at-same A i v is = grind (arith, nat_tests, is)

abbrev pub value_in : List (Option Bool) → ℕ → Bool
value_in values v = agrees (Pos v) (get_or values v None)

pub SoFar-start : (vars : ℕ) (values : List (Option Bool)) → get_or values 0 None ≡ None → SoFar vars values 1 []
SoFar-start vars values none = record { over = tt; is = λ v. by v }
  where
    by : (v : ℕ) → false ≡ (nat_lt v 1 && value_in values v)
    by zero = sym (ap (λ o. agrees (Pos 0) o) none)
    by (suc n) = ap (λ b. b && value_in values (suc n)) (sym (le-ltb (suc n) 1 (omega arith)))

pub SoFar-push : (vars : ℕ) (values : List (Option Bool)) (i : ℕ) (done : List ℕ) → 0 < i → i ≤ vars → value_in values i ≡ true → SoFar vars values i done → SoFar vars values (i + 1) (done ++ (i ∷ []))
SoFar-push vars values i done some within is h = record {
  over = each-push (λ v. (0 < v) × (v ≤ vars)) done i h.over (some, within);
  is = λ v. list_any-append (λ x. x == v) done (i ∷ []) ∙ ap (λ b. members done v || b) (or_false (i == v)) ∙ ap (λ b. b || (i == v)) (h.is v) ∙ at-next (value_in values) i v is;
}

pub SoFar-skip : (vars : ℕ) (values : List (Option Bool)) (i : ℕ) (done : List ℕ) → value_in values i ≡ false → SoFar vars values i done → SoFar vars values (i + 1) done
SoFar-skip vars values i done is h = record { over = h.over; is = λ v. h.is v ∙ at-same (value_in values) i v is }

pub SoFar-end : (vars : ℕ) (values : List (Option Bool)) (i : ℕ) (done : List ℕ) → length values ≤ i → SoFar vars values i done → (v : ℕ) → members done v ≡ value_in values v
SoFar-end vars values i done whole h v = h.is v ∙ by (cases_lt v i)
  where
    by : (v < i) ⊎ (i ≤ v) → (nat_lt v i && value_in values v) ≡ value_in values v
    by (inl k) = ap (λ b. b && value_in values v) (lt-ltb v i k)
    by (inr k) = ap (λ b. b && value_in values v) (le-ltb v i k) ∙ sym (ap (λ o. agrees (Pos v) o) (get_or_past values v None (omega (arith, k, whole))))
