-- Digits, and the gates of small numbers, by computation.
use Rattle.std.proofs.Common.{◌≡◌, refl, true, false, [], ◌∷◌, length}
use Rattle.asp_base.specs.Literal.{Pos, Neg}
use Rattle.clause_store.specs.Stored.{inputs_only}
use Rattle.digit_gates.specs.Digits.{number, predecessor}
use Rattle.digit_gates.specs.DigitGates.{after_predecessor, predecessor_digits, after_less, less_output}

-- the least digit is the first
six : number (false ∷ true ∷ true ∷ []) ≡ 6
six = refl

-- less 1, 0 is the greatest number of so many digits
below_six : predecessor 3 6 ≡ 5
below_six = refl

around : predecessor 3 0 ≡ 7
around = refl

-- a number of one digit needs no gate
one_digit : predecessor_digits (Pos 1 ∷ []) (inputs_only 1) ≡ Neg 1 ∷ []
one_digit = refl

-- 1 and 2 are the digits: 3 says where the second differs from the borrow
two_digits : (after_predecessor (Pos 1 ∷ Pos 2 ∷ []) (inputs_only 2)).hard
    ≡ (Neg 2 ∷ Neg 1 ∷ Pos 3 ∷ []) ∷ (Pos 2 ∷ Pos 1 ∷ Pos 3 ∷ []) ∷ (Pos 2 ∷ Neg 1 ∷ Neg 3 ∷ []) ∷ (Neg 2 ∷ Pos 1 ∷ Neg 3 ∷ []) ∷ []
two_digits = refl

-- no borrow that is not used: three digits have 3 gates
three_digits : (after_predecessor (Pos 1 ∷ Pos 2 ∷ Pos 3 ∷ []) (inputs_only 3)).vars ≡ 6
three_digits = refl

-- of five digits two gates of two digits are above the first
five_digits : (after_less (Pos 1 ∷ Pos 2 ∷ Pos 3 ∷ Pos 4 ∷ Pos 5 ∷ []) (Pos 6 ∷ Pos 7 ∷ Pos 8 ∷ Pos 9 ∷ Pos 10 ∷ []) (inputs_only 10)).vars ≡ 13
five_digits = refl

five_digits_clauses : length (after_less (Pos 1 ∷ Pos 2 ∷ Pos 3 ∷ Pos 4 ∷ Pos 5 ∷ []) (Pos 6 ∷ Pos 7 ∷ Pos 8 ∷ Pos 9 ∷ Pos 10 ∷ []) (inputs_only 10)).hard ≡ 31
five_digits_clauses = refl

five_digits_literal : less_output (Pos 1 ∷ Pos 2 ∷ Pos 3 ∷ Pos 4 ∷ Pos 5 ∷ []) (Pos 6 ∷ Pos 7 ∷ Pos 8 ∷ Pos 9 ∷ Pos 10 ∷ []) (inputs_only 10) ≡ Pos 13
five_digits_literal = refl
