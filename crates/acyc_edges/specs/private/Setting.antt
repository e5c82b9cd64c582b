-- A normal program with its components, and what the code keeps of them while it makes an encoding.
use Rattle.std.specs.Prelude.{ℕ, ◌≤◌, ◌^◌, List, []}
use Rattle.components.specs.Divided.{Divided, cyclic_numbers, part_of}
use Rattle.components.specs.Parts.{ArePartsOf}
use Rattle.ground_program.specs.Ground.{Ground}
use Rattle.ground_program.specs.Normal.{AreNormal}
use Rattle.ground_program.specs.Size.{size}
use Rattle.ground_program.specs.declared.program.Edge.{Edge}
use Rattle.ground_program.specs.declared.program.Rule.{Rule}
use Rattle.acyc_edges.specs.Encoding.{edges_of, made, rules_of_name}
use Rattle.acyc_edges.specs.declared.name.Name.{Name}
use Rattle.acyc_edges.specs.declared.nodes.Nodes.{Nodes}
use Rattle.acyc_edges.specs.declared.tables.Tables.{Tables}
use Rattle.acyc_edges.specs.private.Nodes.{AreNodes}
use Rattle.acyc_edges.specs.private.Numbers.{number_of}
use Rattle.acyc_edges.specs.private.Sources.{AreNames}
use Rattle.acyc_edges.specs.private.Tables.{AreTables}

pub record Given : Type 0 where
  pub program : Ground
  pub parts : Divided

-- the components are the program's, and the tables and nodes those of both
pub record IsSetting (P : Ground) (d : Divided) (t : Tables) (n : Nodes) : Type 0 where
  pub normal : AreNormal P.rules
  pub parts : ArePartsOf P d
  pub small : size P ≤ 2 ^ 24
  pub tables : AreTables P (part_of d) t
  pub nodes : AreNodes P (part_of d) (cyclic_numbers d) n

-- the rules of a name, where new names have these atoms
abbrev pub rules_by : Given → List (Name × ℕ) → Name → List Rule
rules_by given pairs = rules_of_name given.program (part_of given.parts) [] (number_of pairs)

abbrev pub edges_by : Given → List (Name × ℕ) → Name → List Edge
edges_by given pairs =
    edges_of given.program (part_of given.parts) (cyclic_numbers given.parts) (number_of pairs)

-- the program that names make
abbrev pub made_by : Given → List Name → Ground
made_by given names = made given.program (part_of given.parts) (cyclic_numbers given.parts) names

abbrev pub AreNamesOf : Given → List Name → Type 0
AreNamesOf given names =
    AreNames given.program (part_of given.parts) (cyclic_numbers given.parts) names
