-- Which levels a sum has in mixed radix: the radix and the tare of each, from the lowest on, and
-- the bound of the top level.
use Rattle.std.specs.Prelude.{◌≡◌, ℕ, ◌+◌, ◌*◌, ◌/◌, ℤ, pos, List, [], ◌∷◌, Some, None}
use Rattle.asp_base.specs.Literal.{Literal}
use Rattle.ground_program.specs.Radix.{tare_of, next_radix}

-- Of items whose weights are cut to this bound, above radices whose product is this base, where the
-- bound of the level is k: each radix is the next one, and its tare is the least that makes it
-- divide the bound of its level. The top level is the first that has no radix.
abbrev pub Follows : List (Literal × ℤ) → ℕ → List ℤ → List ℤ → ℕ → ℕ → ℤ → Type 0
Follows items bound [] [] base k top = (next_radix items bound base ≡ None) × (top ≡ pos k)
Follows items bound (pos b ∷ radices) (pos t ∷ tares) base k top =
    (next_radix items bound base ≡ Some b) × (t ≡ tare_of k b)
    × Follows items bound radices tares (base * b) ((k + t) / b) top
Follows items bound _ _ base k top = ⊥
