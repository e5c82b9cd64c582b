-- Names in the order in which they first came.
use Rattle.std.specs.Prelude.{ℕ, Bool, cond, List, [], ◌∷◌, ◌++◌}
use Rattle.std.specs.List.{list_any}
use Rattle.std.specs.Str.{bytes_eq}

-- the name is in the list
abbrev pub has : List (List ℕ) → List ℕ → Bool
has names x = list_any (λ name. bytes_eq x name) names

-- the names with one more, if it is new
abbrev pub put_name : List (List ℕ) → List ℕ → List (List ℕ)
put_name names x = cond (has names x) names (names ++ (x ∷ []))
