-- Gates that compute with numbers in binary digits (T. Janhunen and I. Niemelä, Compact
-- translations of non-disjunctive answer set programs to propositional clauses, 2011): which gates
-- these are, one after another from the least digit upward, and what they say.
use Rattle.std.specs.Prelude.{◌≡◌, ℕ, zero, suc, ◌+◌, ◌*◌, ◌/◌, ◌^◌, ◌<◌, true, ltb, List, [], ◌∷◌, length}
use Rattle.std.specs.List.{AllByRecursion}
use Rattle.asp_base.specs.Literal.{Literal, Pos, negation}
use Rattle.asp_base.specs.Sets.{Set}
use Rattle.gate_tables.specs.Tables.{and2_rows, xor2_rows, lt_first_rows, lt_step_rows, lt_pair_rows}
use Rattle.clause_store.specs.Additions.{Adds}
use Rattle.clause_store.specs.Extension.{Agree}
use Rattle.clause_store.specs.Facts.{IsOver}
use Rattle.clause_store.specs.Gates.{after_gate}
use Rattle.clause_store.specs.Models.{is_true, clauses_true, IsAssignment}
use Rattle.clause_store.specs.Stored.{Stored}
use Rattle.digit_gates.specs.Digits.{number_at, predecessor}

-- the variable that comes next
abbrev pub output : Stored → Literal
output s = Pos (suc s.vars)

-- ---- new digits

abbrev pub with_variables : ℕ → Stored → Stored
with_variables w s = record s { vars = s.vars + w }

-- so many variables after the first n
abbrev pub variables_from : ℕ → ℕ → List Literal
variables_from zero n = []
variables_from (suc w) n = Pos (suc n) ∷ variables_from w (suc n)

-- Each number of w digits is that of the digits x in just one assignment of all variables that says
-- the same of the earlier ones.
pub record AreNewDigits (w : ℕ) (x : List Literal) (before after : Stored) : Type 0 where
  pub count : length x ≡ w
  pub over : AllByRecursion (IsOver after.vars) x
  pub some : (A : Set) → IsAssignment before.vars A → (n : ℕ) → n < 2 ^ w
      → (B : Set) × IsAssignment after.vars B × Agree before.vars A B × (number_at B x ≡ n)
  pub one : (A B : Set) → Agree before.vars A B → number_at A x ≡ number_at B x
      → Agree after.vars A B

-- ---- the number less 1

-- A digit of the predecessor says where digit and borrow differ. Where a further digit follows, the
-- borrow goes on to it from a digit that is 0.
abbrev pub after_digit : Literal → Literal → List Literal → Stored → Stored
after_digit borrow r [] s = after_gate xor2_rows (r ∷ borrow ∷ []) s
after_digit borrow r (q ∷ rest) s =
    after_gate and2_rows (borrow ∷ negation r ∷ []) (after_gate xor2_rows (r ∷ borrow ∷ []) s)

abbrev pub next_borrow : Literal → Literal → List Literal → Stored → Literal
next_borrow borrow r [] s = borrow
next_borrow borrow r (q ∷ rest) s = output (after_gate xor2_rows (r ∷ borrow ∷ []) s)

abbrev pub after_borrow : Literal → List Literal → Stored → Stored
after_borrow borrow [] s = s
after_borrow borrow (r ∷ rest) s =
    after_borrow (next_borrow borrow r rest s) rest (after_digit borrow r rest s)

abbrev pub borrow_digits : Literal → List Literal → Stored → List Literal
borrow_digits borrow [] s = []
borrow_digits borrow (r ∷ rest) s =
    output s ∷ borrow_digits (next_borrow borrow r rest s) rest (after_digit borrow r rest s)

-- the least digit changes always
abbrev pub after_predecessor : List Literal → Stored → Stored
after_predecessor [] s = s
after_predecessor (r ∷ rest) s = after_borrow (negation r) rest s

abbrev pub predecessor_digits : List Literal → Stored → List Literal
predecessor_digits [] s = []
predecessor_digits (r ∷ rest) s = negation r ∷ borrow_digits (negation r) rest s

-- The digits p are as many as those of x, and wherever the clauses are true, their number is that
-- of x less 1, modulo 2 ^ w for w digits.
pub record IsPredecessor (x p : List Literal) (before after : Stored) : Type 0 where
  pub adds : Adds (2 * length x) (7 * length x) before after
  pub over : AllByRecursion (IsOver after.vars) p
  pub digits : length p ≡ length x
  pub says : (A : Set) → clauses_true after.hard A ≡ true
      → number_at A p ≡ predecessor (length x) (number_at A x)

-- ---- comparisons

-- Two digits at a time, and one where a last one is left.
abbrev pub after_less_from : Literal → List Literal → List Literal → Stored → Stored
after_less_from below [] ys s = s
after_less_from below (x ∷ xs) [] s = s
after_less_from below (x ∷ []) (y ∷ ys) s = after_gate lt_step_rows (x ∷ y ∷ below ∷ []) s
after_less_from below (x ∷ u ∷ xs) (y ∷ []) s = s
after_less_from below (x ∷ u ∷ xs) (y ∷ v ∷ ys) s =
    after_less_from (output s) xs ys (after_gate lt_pair_rows (u ∷ x ∷ v ∷ y ∷ below ∷ []) s)

abbrev pub less_from : Literal → List Literal → List Literal → Stored → Literal
less_from below [] ys s = below
less_from below (x ∷ xs) [] s = below
less_from below (x ∷ []) (y ∷ ys) s = output s
less_from below (x ∷ u ∷ xs) (y ∷ []) s = below
less_from below (x ∷ u ∷ xs) (y ∷ v ∷ ys) s =
    less_from (output s) xs ys (after_gate lt_pair_rows (u ∷ x ∷ v ∷ y ∷ below ∷ []) s)

-- the least digits first
abbrev pub after_less : List Literal → List Literal → Stored → Stored
after_less [] ys s = s
after_less (x ∷ xs) [] s = s
after_less (x ∷ xs) (y ∷ ys) s =
    after_less_from (output s) xs ys (after_gate lt_first_rows (x ∷ y ∷ []) s)

abbrev pub less_output : List Literal → List Literal → Stored → Literal
less_output [] ys s = output s
less_output (x ∷ xs) [] s = output s
less_output (x ∷ xs) (y ∷ ys) s =
    less_from (output s) xs ys (after_gate lt_first_rows (x ∷ y ∷ []) s)

-- how many variables a comparison of numbers of w digits adds
abbrev pub less_vars : ℕ → ℕ
less_vars w = 1 + w / 2

-- Wherever the clauses are true, the literal is true just where the number of x is below that of y.
pub record IsLess (x y : List Literal) (l : Literal) (before after : Stored) : Type 0 where
  pub adds : Adds (less_vars (length x)) (7 * length x) before after
  pub over : IsOver after.vars l
  pub says : (A : Set) → clauses_true after.hard A ≡ true
      → is_true l A ≡ ltb (number_at A x) (number_at A y)
