-- What the text of a program calls for, where the program that is made of normal rules is told: the
-- encoding of its positive recursion, behind the rules that have none, in their order.
use Rattle.std.specs.Prelude.{◌≡◌, ⊤, ℕ, List, [], ◌∷◌, Result, Ok}
use Rattle.asp_base.specs.Faults.{Fault}
use Rattle.ground_program.specs.Ground.{Ground}
use Rattle.ground_program.specs.Normal.{AreNormal}
use Rattle.ground_program.specs.declared.reading.ReadKind.{ReadKind}
use Rattle.aspif_format.specs.Read.{aspif_of}
use Rattle.acyc_translation.specs.Encoded.{IsEncoded}
use Rattle.acyc_translation.specs.declared.encoding.Encoding.{Encoding}
use Rattle.asp_tools.specs.AcycAnswers.{AcycAnswers}
use Rattle.asp_tools.specs.ProgramText.{program_of_text}
use Rattle.asp_tools.specs.declared.answer.Answer.{Answer}
use Rattle.asp_tools.specs.declared.command.AcycFormat.{AcycFormat}

-- a single text that is made is read as the encoding
abbrev pub HasEncoded : Encoding → Result Ground (Fault ReadKind) → List (List ℕ) → Type 0
HasEncoded encoding (Ok P) (target ∷ []) =
    AreNormal P.rules → (Q : Ground) × (aspif_of target ≡ Ok Q) × IsEncoded encoding P Q
HasEncoded encoding read made = ⊤

abbrev pub AcycInOrder : Encoding → AcycFormat → List (List ℕ) → Answer → List (List ℕ)
    → List ℕ → Type 0
AcycInOrder encoding format (text ∷ []) answer made said =
    AcycAnswers encoding format (text ∷ []) answer made said
    × HasEncoded encoding (program_of_text text) made
AcycInOrder encoding format texts answer made said = ⊥
