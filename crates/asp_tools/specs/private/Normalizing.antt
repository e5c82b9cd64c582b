-- The replies of `lp2normal` to a text that is taken apart.
use Rattle.std.specs.Prelude.{◌≡◌, ℕ, List, [], ◌∷◌, length, Result, Ok, if◌then◌else◌}
use Rattle.asp_base.specs.Faults.{Fault}
use Rattle.ground_program.specs.Faithful.{Faithful}
use Rattle.ground_program.specs.Ground.{Ground}
use Rattle.ground_program.specs.declared.reading.ReadKind.{ReadKind}
use Rattle.aspif_format.specs.Read.{aspif_of}
use Rattle.smodels_format.specs.Lowering.{lowered}
use Rattle.smodels_format.specs.Read.{smodels_of}
use Rattle.asp_tools.specs.Calls.{makes}
use Rattle.asp_tools.specs.NormalAnswers.{OfGround, OfProgram}
use Rattle.asp_tools.specs.declared.answer.Answer.{Answer}
use Rattle.asp_tools.specs.declared.command.Command.TheVariants.{Lp2normal}
use Rattle.asp_tools.specs.declared.command.TextFormat.{TextFormat}
use Rattle.asp_tools.specs.declared.command.TextFormat.TheVariants.{Aspif, Smodels}

-- the text is read as this program, or as the one that stands for it in smodels text
abbrev pub IsTextOf : TextFormat → Ground → List ℕ → Type 0
IsTextOf Aspif N target = aspif_of target ≡ Ok N
IsTextOf Smodels N target = (smodels_of target ≡ Ok (lowered N)) × Faithful N (lowered N)

abbrev pub AreTextOf : TextFormat → Ground → List (List ℕ) → Type 0
AreTextOf format N (target ∷ []) = IsTextOf format N target
AreTextOf format N made = ⊥

-- the text is made, or none is
abbrev pub HasOutput : TextFormat → Answer → List (List ℕ) → Type 0
HasOutput format answer made = length made ≡ (if makes (Lp2normal format) answer then 1 else 0)

-- the reply to a program
abbrev pub NormalGroundReply : TextFormat → Ground → Answer → List (List ℕ) → List ℕ → Type 0
NormalGroundReply format P answer made said =
    OfGround format P answer made × HasOutput format answer made × (said ≡ [])

-- and to a text that is read so
abbrev pub NormalReply : TextFormat → Result Ground (Fault ReadKind) → Answer → List (List ℕ)
    → List ℕ → Type 0
NormalReply format read answer made said =
    OfProgram format read answer made × HasOutput format answer made × (said ≡ [])
