-- Rows of digits.
use Rattle.std.specs.Prelude.{ℕ, nat_le, Bool, false, ◌&&◌, List, [], ◌∷◌}
use Rattle.std.specs.List.{list_all}

-- a digit from 0 to the last one
abbrev pub is_digit_to : ℕ → ℕ → Bool
is_digit_to last byte = nat_le 48 byte && nat_le byte last

-- one or more of them
abbrev pub are_digits_to : ℕ → List ℕ → Bool
are_digits_to last [] = false
are_digits_to last (byte ∷ bytes) = list_all (is_digit_to last) (byte ∷ bytes)
