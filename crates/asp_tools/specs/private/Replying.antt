-- Replies to texts that are taken apart.
use Rattle.std.specs.Prelude.{◌≡◌, ⊤, ℕ, List, [], ◌∷◌, length, Result, Ok, if◌then◌else◌}
use Rattle.asp_base.specs.Faults.{Fault}
use Rattle.ground_program.specs.Ground.{Ground}
use Rattle.ground_program.specs.declared.reading.ReadKind.{ReadKind}
use Rattle.clause_store.specs.Clauses.{Clauses}
use Rattle.sat_translation.specs.Translated.{IsCnf, IsWcnf}
use Rattle.acyc_translation.specs.Encoded.{IsEcnf}
use Rattle.dimacs_format.specs.Read.{formula_of}
use Rattle.symbol_map.specs.Symbols.{Symbols}
use Rattle.symbol_map.specs.declared.map.Form.{Form}
use Rattle.symbol_map.specs.declared.map.Form.TheVariants.{Cnf, Ecnf, Wcnf}
use Rattle.symbol_map.specs.Read.{map_of}
use Rattle.asp_tools.specs.Calls.{makes}
use Rattle.asp_tools.specs.SatAnswers.{OfGround, OfProgram}
use Rattle.asp_tools.specs.SatInOrder.{HasRanked}
use Rattle.asp_tools.specs.declared.command.Command.TheVariants.{Lp2sat}
use Rattle.asp_tools.specs.declared.command.FormulaFormat.{FormulaFormat}
use Rattle.asp_tools.specs.declared.answer.Answer.{Answer}
use Rattle.asp_tools.specs.declared.answer.Answer.TheVariants.{Refused, TooLarge}

-- nothing is said with an answer that says nothing of its own
abbrev pub IsSilent : Answer → List ℕ → Type 0
IsSilent (Refused refused) said = said ≡ []
IsSilent (TooLarge number) said = said ≡ []
IsSilent answer said = ⊤

-- a reply with which something may be said, and nothing is made
abbrev pub Replying : (Answer → List ℕ → Type 0) → Answer → List (List ℕ) → List ℕ → Type 0
Replying Calls answer made said = Calls answer said × (made ≡ []) × IsSilent answer said

-- clauses alone, with edges, or with soft ones
abbrev pub HasFormOf : Form → Clauses → Type 0
HasFormOf Cnf F = IsCnf F
HasFormOf Ecnf F = IsEcnf F
HasFormOf Wcnf F = IsWcnf F

-- the texts of a formula and of a map
abbrev pub AreTextsOf : Clauses → Symbols → List (List ℕ) → Type 0
AreTextsOf F m (target ∷ table ∷ []) = (formula_of target ≡ Ok F) × (map_of table ≡ Ok m)
AreTextsOf F m made = ⊥

-- both texts are made, or none is
abbrev pub HasOutputs : FormulaFormat → Answer → List (List ℕ) → Type 0
HasOutputs format answer made = length made ≡ (if makes (Lp2sat format) answer then 2 else 0)

-- the reply of `lp2sat` to a program
abbrev pub GroundReply : FormulaFormat → Ground → Answer → List (List ℕ) → List ℕ → Type 0
GroundReply format P answer made said =
    OfGround format P answer made × HasRanked (Ok P) made × HasOutputs format answer made ×
    (said ≡ [])

-- and to a text that is read so
abbrev pub SatReply : FormulaFormat → Result Ground (Fault ReadKind) → Answer
    → List (List ℕ) → List ℕ → Type 0
SatReply format read answer made said =
    OfProgram format read answer made × HasRanked read made × HasOutputs format answer made ×
    (said ≡ [])
