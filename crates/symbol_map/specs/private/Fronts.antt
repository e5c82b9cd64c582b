-- What stands in a line before the literals of a show, and before the items of a level.
use Rattle.std.specs.Prelude.{ℕ, ℤ, List, ◌∷◌, ◌++◌, length, codes}
use Rattle.std.specs.Fmt.{decimal, signed_decimal}

abbrev pub name_front : List ℕ → List ℕ
name_front name = codes "show" ++ ((32 ∷ decimal (length name)) ++ (32 ∷ name))

abbrev pub priority_front : ℤ → List ℕ
priority_front priority = codes "level" ++ (32 ∷ signed_decimal priority)
