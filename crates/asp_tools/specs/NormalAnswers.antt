-- What the text of a program calls for: the text of a program of normal rules that stands for it,
-- one to one, with the same names and costs.
use Rattle.std.specs.Prelude.{◌≡◌, ◌≤◌, ◌<◌, ◌^◌, ℕ, min, Bool, true, false, List, [], ◌∷◌, Result, Ok, Err}
use Rattle.std.specs.List.{AllByRecursion}
use Rattle.asp_base.specs.Faults.{Fault}
use Rattle.asp_base.specs.Sets.{members, Within}
use Rattle.ground_program.specs.Facts.{Among}
use Rattle.ground_program.specs.Faithful.{Faithful}
use Rattle.ground_program.specs.Ground.{Ground}
use Rattle.ground_program.specs.Normal.{AreNormal}
use Rattle.ground_program.specs.Room.{room}
use Rattle.ground_program.specs.Size.{size}
use Rattle.ground_program.specs.declared.reading.ReadKind.{ReadKind}
use Rattle.aspif_format.specs.Read.{aspif_of}
use Rattle.smodels_format.specs.Read.{smodels_of}
use Rattle.smodels_format.specs.Writable.{is_writable}
use Rattle.normalize.specs.Kept.{with_facts, room_limit}
use Rattle.asp_tools.specs.ProgramText.{program_of_text}
use Rattle.asp_tools.specs.declared.answer.Answer.{Answer}
use Rattle.asp_tools.specs.declared.answer.Answer.TheVariants.{Done, Refused, TooLarge}
use Rattle.asp_tools.specs.declared.command.TextFormat.{TextFormat}
use Rattle.asp_tools.specs.declared.command.TextFormat.TheVariants.{Aspif, Smodels}
use Rattle.asp_tools.specs.declared.outcome.Kind.TheVariants.{Text, NotSmodels}

-- A program of normal rules: cut to the atoms of P, its stable models are one to one those of P,
-- with their names and costs.
pub record StandsFor (P N : Ground) : Type 0 where
  pub normal : AreNormal N.rules
  pub faithful : Faithful P N

-- What holds besides of one that is written as it is: it stands for P rule by rule, so also where
-- the same facts are added to both; its size is within the room of P; a program of normal rules is
-- left as it is.
pub record StandsByRules (P N : Ground) : Type 0 where
  pub facts : (facts : List ℕ) → AllByRecursion (Among P.atoms) facts
      → Faithful (with_facts facts P) (with_facts facts N)
  pub atoms : Within (members P.atoms) (members N.atoms)
  pub size : size N ≤ room P
  pub same : AreNormal P.rules → N ≡ P

-- the text is read as such a program
abbrev pub IsWritten : TextFormat → Ground → List ℕ → Type 0
IsWritten Aspif P target =
    (N : Ground) × (aspif_of target ≡ Ok N) × StandsFor P N × StandsByRules P N
IsWritten Smodels P target = (N : Ground) × (smodels_of target ≡ Ok N) × StandsFor P N

abbrev pub is_writable_as : TextFormat → Ground → Bool
is_writable_as Aspif P = true
is_writable_as Smodels P = is_writable P

-- A program that was read is written, or it has a part that smodels text does not have, or its
-- room, which is told up to 2^63, is above the limit.
abbrev pub OfGround : TextFormat → Ground → Answer → List (List ℕ) → Type 0
OfGround format P Done (target ∷ []) =
    (is_writable_as format P ≡ true) × (room P ≤ room_limit) × IsWritten format P target
OfGround format P (Refused refused) [] =
    (refused ≡ record { file = 1; line = 0; kind = NotSmodels })
    × (is_writable_as format P ≡ false)
OfGround format P (TooLarge number) [] =
    (is_writable_as format P ≡ true) × (room_limit < room P) × (number ≡ min (room P) (2 ^ 63))
OfGround format P answer made = ⊥

abbrev pub OfProgram : TextFormat → Result Ground (Fault ReadKind) → Answer → List (List ℕ)
    → Type 0
OfProgram format (Err fault) answer made =
    (answer ≡ Refused (record { file = 1; line = fault.line; kind = Text fault.kind })) ×
    (made ≡ [])
OfProgram format (Ok P) answer made = OfGround format P answer made

abbrev pub NormalAnswers : TextFormat → List (List ℕ) → Answer → List (List ℕ) → List ℕ → Type 0
NormalAnswers format (text ∷ []) answer made said =
    OfProgram format (program_of_text text) answer made × (said ≡ [])
NormalAnswers format texts answer made said = ⊥
