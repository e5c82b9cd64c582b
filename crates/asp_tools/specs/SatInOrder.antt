-- What the text of a program calls for, where the formula of a program of normal rules is told: it
-- is the program's completion, its clauses in the order of the rules, and behind it the rankings of
-- its cyclic components.
use Rattle.std.specs.Prelude.{◌≡◌, ⊤, ℕ, List, [], ◌∷◌, Result, Ok}
use Rattle.asp_base.specs.Faults.{Fault}
use Rattle.ground_program.specs.Ground.{Ground}
use Rattle.ground_program.specs.Normal.{AreNormal}
use Rattle.ground_program.specs.declared.reading.ReadKind.{ReadKind}
use Rattle.clause_store.specs.Clauses.{Clauses}
use Rattle.dimacs_format.specs.Read.{formula_of}
use Rattle.sat_translation.specs.Ranked.{IsRanked, hard_part}
use Rattle.asp_tools.specs.ProgramText.{program_of_text}
use Rattle.asp_tools.specs.SatAnswers.{SatAnswers}
use Rattle.asp_tools.specs.declared.answer.Answer.{Answer}
use Rattle.asp_tools.specs.declared.command.FormulaFormat.{FormulaFormat}

-- the first of two texts that are made is read as a formula whose hard clauses are these
abbrev pub HasRanked : Result Ground (Fault ReadKind) → List (List ℕ) → Type 0
HasRanked (Ok P) (target ∷ table ∷ []) =
    AreNormal P.rules → (F : Clauses) × (formula_of target ≡ Ok F) × IsRanked P (hard_part F)
HasRanked read made = ⊤

abbrev pub SatInOrder : FormulaFormat → List (List ℕ) → Answer → List (List ℕ) → List ℕ → Type 0
SatInOrder format (text ∷ []) answer made said =
    SatAnswers format (text ∷ []) answer made said × HasRanked (program_of_text text) made
SatInOrder format texts answer made said = ⊥
