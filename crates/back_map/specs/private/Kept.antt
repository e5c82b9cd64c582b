-- What a reader of an answer keeps.
use Rattle.std.specs.Prelude.{◌≡◌, ℕ, ◌+◌, ◌<◌, ◌^◌, Bool, List, Option, None, get_or, length}
use Rattle.back_map.specs.declared.answer.Status.{Status}

-- The values are the entries of the variables from 0: whether each was named, and as true or false.
pub record Kept : Type 0 where
  pub vars : ℕ
  pub status : Option Status
  pub bare : Bool
  pub values : List (Option Bool)
  pub ended : Bool

-- an entry for each variable, and none at 0
pub record IsKept (kept : Kept) : Type 0 where
  pub few : kept.vars < 2 ^ 31
  pub len : length kept.values ≡ kept.vars + 1
  pub zero : get_or kept.values 0 None ≡ None
