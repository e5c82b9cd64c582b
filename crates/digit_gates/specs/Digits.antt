-- Numbers in binary digits, least first.
use Rattle.std.specs.Prelude.{ℕ, zero, suc, ◌+◌, ◌-◌, ◌*◌, ◌^◌, Bool, cond, List, [], ◌∷◌}
use Rattle.asp_base.specs.Literal.{Literal}
use Rattle.asp_base.specs.Sets.{Set}
use Rattle.clause_store.specs.Gates.{values_at}

abbrev pub number : List Bool → ℕ
number [] = 0
number (d ∷ ds) = cond d 1 0 + 2 * number ds

-- the number whose digits are the literals, where an assignment makes those of value 1 true
abbrev pub number_at : Set → List Literal → ℕ
number_at A digits = number (values_at A digits)

-- a number of w digits less 1, modulo 2 ^ w
abbrev pub predecessor : ℕ → ℕ → ℕ
predecessor w zero = 2 ^ w - 1
predecessor w (suc n) = n
