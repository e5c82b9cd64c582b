-- Literals: an atom or its negation, and where they hold.
use Rattle.std.specs.Prelude.{◌≡◌, refl, ℕ, zero, suc, ℤ, pos, negsuc, ◌<◌, ◌-◌, ◌^◌, ◌==◌, Bool, true, false, not, List}
use Rattle.std.specs.List.{list_all}
use Rattle.asp_base.specs.Sets.{Set}

pub data Literal : Type 0 where
  Pos : ℕ → Literal
  Neg : ℕ → Literal

abbrev pub atom_of : Literal → ℕ
atom_of (Pos a) = a
atom_of (Neg a) = a

abbrev pub is_positive : Literal → Bool
is_positive (Pos a) = true
is_positive (Neg a) = false

abbrev pub negation : Literal → Literal
negation (Pos a) = Neg a
negation (Neg a) = Pos a

-- the literal that a number stands for
abbrev pub literal_of : ℤ → Literal
literal_of (pos n) = Pos n
literal_of (negsuc n) = Neg (suc n)

-- the number of a literal
abbrev pub integer_of : Literal → ℤ
integer_of (Pos a) = pos a
integer_of (Neg zero) = pos 0
integer_of (Neg (suc n)) = negsuc n

-- not 0, and not the least number of 32 bits
abbrev pub IsLiteral : ℤ → Type 0
IsLiteral (pos n) = 0 < n
IsLiteral (negsuc n) = n < 2 ^ 31 - 1

pub integer_of-literal_of : (z : ℤ) → integer_of (literal_of z) ≡ z
integer_of-literal_of (pos n) = refl
integer_of-literal_of (negsuc n) = refl

abbrev pub same_literal : Literal → Literal → Bool
same_literal (Pos a) (Pos b) = a == b
same_literal (Neg a) (Neg b) = a == b
same_literal (Pos a) (Neg b) = false
same_literal (Neg a) (Pos b) = false

-- A literal holds where its atom is in X, or, if it is negative, where its atom is outside M.
abbrev pub literal_holds : Literal → Set → Set → Bool
literal_holds (Pos a) X M = X a
literal_holds (Neg a) X M = not (M a)

abbrev pub all_hold : List Literal → Set → Set → Bool
all_hold lits X M = list_all (λ l. literal_holds l X M) lits
