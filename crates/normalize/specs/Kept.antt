-- What normalization keeps of a program, and why it makes none.
use Rattle.std.specs.Prelude.{◌≡◌, ◌<◌, ◌^◌, ℕ, min, List, [], ◌++◌, map, ⊤}
use Rattle.ground_program.specs.Ground.{Ground}
use Rattle.ground_program.specs.Room.{room}
use Rattle.ground_program.specs.declared.program.Head.TheVariants.{One}
use Rattle.ground_program.specs.declared.program.Body.TheVariants.{All}
use Rattle.ground_program.specs.declared.program.Rule.{Rule}
use Rattle.normalize.specs.declared.normalization.NormalRefusal.{NormalRefusal}
use Rattle.normalize.specs.declared.normalization.NormalRefusal.TheVariants.{TooLarge, Memory}

-- What is no rule stays as it is.
pub record SameRest (P Q : Ground) : Type 0 where
  pub required : Q.required ≡ P.required
  pub edges : Q.edges ≡ P.edges
  pub levels : Q.levels ≡ P.levels
  pub shows : Q.shows ≡ P.shows

abbrev pub fact : ℕ → Rule
fact a = record { head = One a; body = All [] }

-- the program with a fact for each of these atoms
abbrev pub with_facts : List ℕ → Ground → Ground
with_facts facts P = record P { rules = P.rules ++ map fact facts }

-- a program for which normal rules are made has at most this room
abbrev pub room_limit : ℕ
room_limit = 2 ^ 24

-- The program's room, which is told up to 2^63, is above the limit, or memory ran out.
abbrev pub RefusedAs : Ground → NormalRefusal → Type 0
RefusedAs P (TooLarge number) = (room_limit < room P) × (number ≡ min (room P) (2 ^ 63))
RefusedAs P Memory = ⊤
