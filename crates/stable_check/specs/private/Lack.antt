-- What the bodies of rules still lack.
use Rattle.std.specs.Prelude.{ℕ, suc, ℤ, pos, negsuc, ◌+◌, ◌-◌, ◌==◌, Bool, false, cond, List, [], ◌∷◌, length, map, get_or, ⊤}
use Rattle.std.specs.List.{AllByRecursion}
use Rattle.asp_base.specs.Literal.{Literal, literal_holds}
use Rattle.asp_base.specs.Sets.{Set}
use Rattle.ground_program.specs.Facts.{FitsWeight, FitsBodyWeight}
use Rattle.rising_numbers.specs.Rising.{place}
use Rattle.ground_program.specs.declared.program.Body.{Body}
use Rattle.ground_program.specs.declared.program.Body.TheVariants.{All, Sum}
use Rattle.ground_program.specs.declared.program.Rule.{Rule}

-- a number, or 0 where it is negative
abbrev pub natural : ℤ → ℕ
natural (pos n) = n
natural (negsuc n) = 0

-- the sum that a body asks; one of literals asks one for each
abbrev pub asks : Body → ℕ
asks (All lits) = length lits
asks (Sum bound items) = natural bound

abbrev pub one_each : List Literal → List (Literal × ℕ)
one_each lits = map (λ l. (l, 1)) lits

abbrev pub naturals : List (Literal × ℤ) → List (Literal × ℕ)
naturals items = map (λ item. (item.0, natural item.1)) items

abbrev pub weighed : Body → List (Literal × ℕ)
weighed (All lits) = one_each lits
weighed (Sum bound items) = naturals items

-- the sum of the weights of the items whose literal holds
abbrev pub total : List (Literal × ℕ) → Set → Set → ℕ
total [] X M = 0
total (item ∷ items) X M = cond (literal_holds item.0 X M) item.1 0 + total items X M

-- what is missing of the sum that the body asks: nothing just where the body holds
abbrev pub lack : Set → Set → Rule → ℕ
lack X M rule = asks rule.body - total (weighed rule.body) X M

-- the flag of an atom among those that stand for these atoms
abbrev pub flag : List ℕ → List Bool → ℕ → Bool
flag atoms flags a = get_or flags (place atoms a - 1) false

-- the places of the zeros, from this number on
abbrev pub zeros : ℕ → List ℕ → List ℕ
zeros i [] = []
zeros i (n ∷ ns) = cond (n == 0) (i ∷ zeros (suc i) ns) (zeros (suc i) ns)

-- the numbers of a body have 32 bits
abbrev pub WeightsFit : Body → Type 0
WeightsFit (All lits) = ⊤
WeightsFit (Sum bound items) =
    FitsWeight bound × AllByRecursion (λ item. FitsBodyWeight item.1) items
