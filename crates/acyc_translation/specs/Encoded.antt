-- What the two encodings of positive recursion by acyclic edges make of a program, and why they
-- make nothing (M. Gebser, T. Janhunen and J. Rintanen, Answer set programming as SAT modulo
-- acyclicity, ECAI 2014).
use Rattle.std.specs.Prelude.{◌≡◌, ◌≤◌, ◌<◌, ◌+◌, ◌*◌, ◌^◌, ◌⊎◌, ⊤, ℕ, min, List, [], length}
use Rattle.asp_base.specs.Sets.{members, Within}
use Rattle.asp_base.specs.Walks.{Acyclic}
use Rattle.ground_program.specs.Dependencies.{depends}
use Rattle.ground_program.specs.Faithful.{Covers, Faithful}
use Rattle.ground_program.specs.Ground.{Ground}
use Rattle.ground_program.specs.Normal.{AreNormal}
use Rattle.ground_program.specs.Room.{room}
use Rattle.ground_program.specs.Size.{size}
use Rattle.ground_program.specs.Tangle.{AreCyclicComponents, tangle}
use Rattle.clause_store.specs.Clauses.{Clauses}
use Rattle.components.specs.Divided.{Divided, cyclic_numbers, part_of}
use Rattle.components.specs.Parts.{ArePartsOf}
use Rattle.symbol_map.specs.FaithfulMap.{CoversMap, FaithfulMap}
use Rattle.symbol_map.specs.Symbols.{Symbols}
use Rattle.normalize.specs.Kept.{room_limit}
use Rattle.acyc_edges.specs.Encoding.{plain, unique}
use Rattle.acyc_translation.specs.declared.encoding.AcycRefusal.{AcycRefusal}
use Rattle.acyc_translation.specs.declared.encoding.AcycRefusal.TheVariants.{TooLarge, Memory}
use Rattle.acyc_translation.specs.declared.encoding.Encoding.{Encoding}
use Rattle.acyc_translation.specs.declared.encoding.Encoding.TheVariants.{Plain, Unique}

-- ---- what is made

-- Plain edges reach each stable model, maybe several times; unique ones reach each once.
abbrev pub StandsFor : Encoding → Ground → Ground → Type 0
StandsFor Plain P Q = Covers P Q
StandsFor Unique P Q = Faithful P Q

-- the same of a formula with its map
abbrev pub StandsThrough : Encoding → Ground → Clauses → Symbols → Type 0
StandsThrough Plain P F m = CoversMap P F m
StandsThrough Unique P F m = FaithfulMap P F m

-- the tangle of a program is this number
pub record IsTangle (P : Ground) (n : ℕ) : Type 0 where
  pub parts : List (List ℕ)
  pub cyclic : AreCyclicComponents P.rules parts
  pub sum : tangle P.rules parts ≡ n

-- the greatest tangle of a program that is encoded by unique edges
abbrev pub tangle_limit : ℕ
tangle_limit = 2 ^ 24

-- the size that an encoding may have
abbrev pub IsBound : Encoding → Ground → ℕ → Type 0
IsBound Plain P q = q ≡ 12 * room P
IsBound Unique P q =
    (n : ℕ) × IsTangle P n × (n ≤ tangle_limit) × (q ≡ 8 * (n + room P))

-- A program of normal rules, in which no atom depends on itself, that stands for P.
pub record IsAcyclic (encoding : Encoding) (P Q : Ground) : Type 0 where
  pub stands : StandsFor encoding P Q
  pub normal : AreNormal Q.rules
  pub acyclic : Acyclic (depends Q.rules)
  pub atoms : Within (members P.atoms) (members Q.atoms)
  pub size : (q : ℕ) × IsBound encoding P q × (size Q ≤ q)

-- hard clauses and edges alone
pub record IsEcnf (F : Clauses) : Type 0 where
  pub soft : F.soft ≡ []
  pub top : F.top ≡ 1

-- the variables and clauses that a formula may have
abbrev pub FitsClauses : Encoding → Ground → Clauses → Type 0
FitsClauses encoding P F =
    (q : ℕ) × IsBound encoding P q × (F.vars ≤ 2 * q) × (length F.hard ≤ 3 * q)

-- ---- the exact encoding of a program of normal rules

abbrev pub encoded : Encoding → Ground → Divided → Ground
encoded Plain P d = plain P (part_of d) (cyclic_numbers d)
encoded Unique P d = unique P (part_of d) (cyclic_numbers d)

-- Q is the encoding of P, by its components in some order of their numbers
pub record IsEncoded (encoding : Encoding) (P Q : Ground) : Type 0 where
  pub divided : Divided
  pub parts : ArePartsOf P divided
  pub is : Q ≡ encoded encoding P divided

-- ---- which programs are encoded

-- the room of the program is within the limit, and with unique edges so is its tangle
abbrev pub IsAccepted : Encoding → Ground → Type 0
IsAccepted Plain P = room P ≤ room_limit
IsAccepted Unique P = (room P ≤ room_limit) × ((n : ℕ) × IsTangle P n × (n ≤ tangle_limit))

-- the tangle, which is told up to 2^63, is above the limit, and the room is not
abbrev pub IsTooTangled : Encoding → Ground → ℕ → Type 0
IsTooTangled Plain P number = ⊥
IsTooTangled Unique P number =
    (room P ≤ room_limit)
    × ((n : ℕ) × IsTangle P n × (tangle_limit < n) × (number ≡ min n (2 ^ 63)))

-- the room, which is told up to 2^63, is above the limit
abbrev pub IsTooRoomy : Ground → ℕ → Type 0
IsTooRoomy P number = (room_limit < room P) × (number ≡ min (room P) (2 ^ 63))

-- Why a program is not encoded: it is too large, or memory ran out.
abbrev pub RefusedAs : Encoding → Ground → AcycRefusal → Type 0
RefusedAs encoding P (TooLarge number) = IsTooRoomy P number ⊎ IsTooTangled encoding P number
RefusedAs encoding P Memory = ⊤
