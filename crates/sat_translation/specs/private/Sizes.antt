-- How large the formula of a normal program is.
use Rattle.std.specs.Prelude.{◌≡◌, ◌≤◌, ◌<◌, ℕ, ◌+◌, ◌*◌, ◌^◌, true, length}
use Rattle.clause_store.specs.Additions.{stands_in}
use Rattle.clause_store.specs.Clauses.{Clauses}
use Rattle.ground_program.specs.Digits.{digits}
use Rattle.ground_program.specs.Ground.{Ground}
use Rattle.ground_program.specs.Size.{size}

-- what the completion has and what the rankings add, and that there is a variable for each atom
pub record FitsSize (P : Ground) (F : Clauses) : Type 0 where
  pub atoms : length P.atoms ≤ F.vars
  pub numbers : F.vars < 2 ^ 31
  pub vars : F.vars ≤ size P + 3 * (digits (size P) * size P)
  pub hard : length F.hard ≤ 2 * size P + 30 * (digits (size P) * size P)
  pub each : (v : ℕ) → 0 < v → v ≤ F.vars → stands_in v F.hard ≡ true
