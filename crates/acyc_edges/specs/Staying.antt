-- What an encoding leaves as it is.
use Rattle.std.specs.Prelude.{◌≡◌, ℕ, List, ◌++◌}
use Rattle.ground_program.specs.Ground.{Ground}
use Rattle.ground_program.specs.declared.program.Rule.{Rule}
use Rattle.acyc_edges.specs.Encoding.{kept_rules}

-- the rules without head and those with a head in no cyclic component come first, in their order
pub record StayFirst (P : Ground) (part : ℕ → ℕ) (parts : List ℕ) (Q : Ground) : Type 0 where
  pub more : List Rule
  pub are : Q.rules ≡ kept_rules P part parts ++ more
