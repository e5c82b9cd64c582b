-- What the text of a program calls for: the texts of a formula and of a map through which the
-- models of the formula are one to one the stable models of the program; with soft clauses, their
-- cost joins the costs of the levels.
use Rattle.std.specs.Prelude.{◌≡◌, ◌≢◌, ◌≤◌, ◌<◌, ◌^◌, ⊤, ℕ, min, List, [], ◌∷◌, Some, None, Result, Ok, Err}
use Rattle.asp_base.specs.Faults.{Fault}
use Rattle.ground_program.specs.Ground.{Ground}
use Rattle.ground_program.specs.Room.{room}
use Rattle.ground_program.specs.declared.reading.ReadKind.{ReadKind}
use Rattle.clause_store.specs.Clauses.{Clauses}
use Rattle.dimacs_format.specs.Read.{formula_of}
use Rattle.symbol_map.specs.FaithfulMap.{FaithfulMap}
use Rattle.symbol_map.specs.Read.{map_of}
use Rattle.symbol_map.specs.Symbols.{Symbols}
use Rattle.symbol_map.specs.declared.map.Form.TheVariants as forms
use Rattle.normalize.specs.Kept.{room_limit}
use Rattle.sat_translation.specs.Translated.{FitsRoom, IsCnf, IsWcnf}
use Rattle.soft_costs.specs.Softening.{too_large_at}
use Rattle.asp_tools.specs.ProgramText.{program_of_text}
use Rattle.asp_tools.specs.declared.answer.Answer.{Answer}
use Rattle.asp_tools.specs.declared.answer.Answer.TheVariants.{Done, Refused, TooLarge}
use Rattle.asp_tools.specs.declared.command.FormulaFormat.{FormulaFormat}
use Rattle.asp_tools.specs.declared.command.FormulaFormat.TheVariants.{Cnf, Wcnf}
use Rattle.asp_tools.specs.declared.outcome.Kind.{Kind}
use Rattle.asp_tools.specs.declared.outcome.Kind.TheVariants.{Text, Edges, SumTooLarge}

-- clauses alone, or with soft ones besides
abbrev pub HasForm : FormulaFormat → Clauses → Symbols → Type 0
HasForm Cnf F m = IsCnf F × (m.form ≡ forms.Cnf)
HasForm Wcnf F m = IsWcnf F × (m.form ≡ forms.Wcnf)

-- The first text is read as a formula and the second as a map, each as its format has it, and
-- through the map the models of the formula are one to one the stable models of the program, with
-- their names and costs. The formula has no edges, and is as large as the program's room allows.
pub record Translates (format : FormulaFormat) (P : Ground) (target table : List ℕ) : Type 0 where
  pub formula : Clauses
  pub map : Symbols
  pub written : formula_of target ≡ Ok formula
  pub mapped : map_of table ≡ Ok map
  pub faithful : FaithfulMap P formula map
  pub form : HasForm format formula map
  pub small : FitsRoom P formula

-- the weights of the levels can be joined in a scale of 63 bits
abbrev pub HasScale : FormulaFormat → Ground → Type 0
HasScale Cnf P = ⊤
HasScale Wcnf P = too_large_at P.levels ≡ None

-- why the program as a whole is refused: it has edges; or the scale of soft clauses first passes 63
-- bits at this priority
abbrev pub OfKind : FormulaFormat → Ground → Kind → Type 0
OfKind format P Edges = P.edges ≢ []
OfKind Wcnf P (SumTooLarge priority) =
    (P.edges ≡ []) × (room P ≤ room_limit) × (too_large_at P.levels ≡ Some priority)
OfKind format P kind = ⊥

-- A program that was read is translated, or refused, or its room, which is told up to 2^63, is
-- above the limit.
abbrev pub OfGround : FormulaFormat → Ground → Answer → List (List ℕ) → Type 0
OfGround format P Done (target ∷ table ∷ []) =
    (P.edges ≡ []) × (room P ≤ room_limit) × HasScale format P × Translates format P target table
OfGround format P (Refused refused) [] =
    (refused.file ≡ 1) × (refused.line ≡ 0) × OfKind format P refused.kind
OfGround format P (TooLarge number) [] =
    (P.edges ≡ []) × (room_limit < room P) × (number ≡ min (room P) (2 ^ 63))
OfGround format P answer made = ⊥

abbrev pub OfProgram : FormulaFormat → Result Ground (Fault ReadKind) → Answer → List (List ℕ)
    → Type 0
OfProgram format (Err fault) answer made =
    (answer ≡ Refused (record { file = 1; line = fault.line; kind = Text fault.kind })) ×
    (made ≡ [])
OfProgram format (Ok P) answer made = OfGround format P answer made

abbrev pub SatAnswers : FormulaFormat → List (List ℕ) → Answer → List (List ℕ) → List ℕ → Type 0
SatAnswers format (text ∷ []) answer made said =
    OfProgram format (program_of_text text) answer made × (said ≡ [])
SatAnswers format texts answer made said = ⊥
