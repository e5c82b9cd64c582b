-- What the text of a program calls for where positive recursion is told by edges: the text of a
-- program of normal rules, in which no atom depends on itself, or the texts of a formula with edges
-- and of a map. Its stable models, or its models, are those of the program.
use Rattle.std.specs.Prelude.{◌≡◌, ◌⊎◌, ℕ, List, [], ◌∷◌, Result, Ok, Err}
use Rattle.asp_base.specs.Faults.{Fault}
use Rattle.ground_program.specs.Ground.{Ground}
use Rattle.ground_program.specs.declared.reading.ReadKind.{ReadKind}
use Rattle.aspif_format.specs.Read.{aspif_of}
use Rattle.clause_store.specs.Clauses.{Clauses}
use Rattle.dimacs_format.specs.Read.{formula_of}
use Rattle.symbol_map.specs.Read.{map_of}
use Rattle.symbol_map.specs.Symbols.{Symbols}
use Rattle.symbol_map.specs.declared.map.Form.TheVariants as forms
use Rattle.acyc_translation.specs.Encoded.{IsAcyclic, StandsThrough, IsEcnf, FitsClauses, IsAccepted, IsTooRoomy, IsTooTangled}
use Rattle.acyc_translation.specs.declared.encoding.Encoding.{Encoding}
use Rattle.asp_tools.specs.ProgramText.{program_of_text}
use Rattle.asp_tools.specs.declared.answer.Answer.{Answer}
use Rattle.asp_tools.specs.declared.answer.Answer.TheVariants.{Done, Refused, TooLarge}
use Rattle.asp_tools.specs.declared.command.AcycFormat.{AcycFormat}
use Rattle.asp_tools.specs.declared.command.AcycFormat.TheVariants.{Aspif, Ecnf}
use Rattle.asp_tools.specs.declared.outcome.Kind.TheVariants.{Text}

-- the text is read as a program that stands for P
pub record WritesProgram (encoding : Encoding) (P : Ground) (target : List ℕ) : Type 0 where
  pub program : Ground
  pub written : aspif_of target ≡ Ok program
  pub acyclic : IsAcyclic encoding P program

-- The first text is read as a formula and the second as a map, and through the map the formula
-- stands for P.
pub record WritesClauses (encoding : Encoding) (P : Ground) (target table : List ℕ) : Type 0 where
  pub formula : Clauses
  pub map : Symbols
  pub written : formula_of target ≡ Ok formula
  pub mapped : map_of table ≡ Ok map
  pub stands : StandsThrough encoding P formula map
  pub ecnf : IsEcnf formula
  pub form : map.form ≡ forms.Ecnf
  pub small : FitsClauses encoding P formula

abbrev pub Writes : Encoding → AcycFormat → Ground → List (List ℕ) → Type 0
Writes encoding Aspif P (target ∷ []) = WritesProgram encoding P target
Writes encoding Ecnf P (target ∷ table ∷ []) = WritesClauses encoding P target table
Writes encoding format P made = ⊥

-- A program that was read is written so, or its room, or else with unique edges its tangle, is
-- above the limit; each is told up to 2^63.
abbrev pub OfGround : Encoding → AcycFormat → Ground → Answer → List (List ℕ) → Type 0
OfGround encoding format P Done made = IsAccepted encoding P × Writes encoding format P made
OfGround encoding format P (TooLarge number) [] =
    IsTooRoomy P number ⊎ IsTooTangled encoding P number
OfGround encoding format P answer made = ⊥

abbrev pub OfProgram : Encoding → AcycFormat → Result Ground (Fault ReadKind) → Answer
    → List (List ℕ) → Type 0
OfProgram encoding format (Err fault) answer made =
    (answer ≡ Refused (record { file = 1; line = fault.line; kind = Text fault.kind })) ×
    (made ≡ [])
OfProgram encoding format (Ok P) answer made = OfGround encoding format P answer made

abbrev pub AcycAnswers : Encoding → AcycFormat → List (List ℕ) → Answer → List (List ℕ)
    → List ℕ → Type 0
AcycAnswers encoding format (text ∷ []) answer made said =
    OfProgram encoding format (program_of_text text) answer made × (said ≡ [])
AcycAnswers encoding format texts answer made said = ⊥
