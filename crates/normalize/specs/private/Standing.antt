-- What is true of the program that normalization makes.
use Rattle.std.specs.Prelude.{◌≡◌, ◌≤◌, ℕ, List}
use Rattle.std.specs.List.{AllByRecursion}
use Rattle.asp_base.specs.Sets.{members, Within}
use Rattle.ground_program.specs.Facts.{Among}
use Rattle.ground_program.specs.Faithful.{Faithful}
use Rattle.ground_program.specs.Ground.{Ground}
use Rattle.ground_program.specs.Normal.{AreNormal}
use Rattle.ground_program.specs.Room.{room}
use Rattle.ground_program.specs.Size.{size}
use Rattle.ground_program.specs.Tangle.{AreCyclicComponents, pairs, tangle}
use Rattle.normalize.specs.Kept.{SameRest, with_facts}

-- A program of normal rules stands for another one, alone and with the same facts added to both,
-- and takes no more than is told of it. A normal program stands for itself.
pub record StandsFor (P made : Ground) : Type 0 where
  pub normal : AreNormal made.rules
  pub faithful : Faithful P made
  pub with_more : (facts : List ℕ) → AllByRecursion (Among P.atoms) facts
      → Faithful (with_facts facts P) (with_facts facts made)
  pub atoms : Within (members P.atoms) (members made.atoms)
  pub rest : SameRest P made
  pub small : size made ≤ room P
  pub same : AreNormal P.rules → made ≡ P
  pub pairs_within : (own parts : List (List ℕ)) → AreCyclicComponents made.rules own
      → AreCyclicComponents P.rules parts → pairs made.rules own ≤ tangle P.rules parts
