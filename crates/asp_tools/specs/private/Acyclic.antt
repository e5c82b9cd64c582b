-- The replies of `lp2acyc` to a text that is taken apart.
use Rattle.std.specs.Prelude.{◌≡◌, ℕ, List, [], ◌∷◌, length, Result, Ok, if◌then◌else◌}
use Rattle.asp_base.specs.Faults.{Fault}
use Rattle.ground_program.specs.Ground.{Ground}
use Rattle.ground_program.specs.declared.reading.ReadKind.{ReadKind}
use Rattle.aspif_format.specs.Read.{aspif_of}
use Rattle.acyc_translation.specs.declared.encoding.Encoding.{Encoding}
use Rattle.asp_tools.specs.AcycAnswers.{OfGround, OfProgram}
use Rattle.asp_tools.specs.AcycInOrder.{HasEncoded}
use Rattle.asp_tools.specs.Calls.{makes, writes_of}
use Rattle.asp_tools.specs.declared.answer.Answer.{Answer}
use Rattle.asp_tools.specs.declared.command.AcycFormat.{AcycFormat}
use Rattle.asp_tools.specs.declared.command.Command.TheVariants.{Lp2acyc}

-- one text, which is read as this program
abbrev pub IsProgramText : Ground → List (List ℕ) → Type 0
IsProgramText Q (target ∷ []) = aspif_of target ≡ Ok Q
IsProgramText Q made = ⊥

-- all texts are made, or none is
abbrev pub HasOutputs : Encoding → AcycFormat → Answer → List (List ℕ) → Type 0
HasOutputs encoding format answer made = length made
    ≡ (if makes (Lp2acyc encoding format) answer then writes_of (Lp2acyc encoding format) else 0)

-- the reply to a program
abbrev pub AcycGroundReply : Encoding → AcycFormat → Ground → Answer → List (List ℕ) → List ℕ
    → Type 0
AcycGroundReply encoding format P answer made said =
    OfGround encoding format P answer made × HasEncoded encoding (Ok P) made ×
    HasOutputs encoding format answer made × (said ≡ [])

-- and to a text that is read so
abbrev pub AcycReply : Encoding → AcycFormat → Result Ground (Fault ReadKind) → Answer
    → List (List ℕ) → List ℕ → Type 0
AcycReply encoding format read answer made said =
    OfProgram encoding format read answer made × HasEncoded encoding read made ×
    HasOutputs encoding format answer made × (said ≡ [])
