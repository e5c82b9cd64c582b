-- What the texts of a formula, a map and a solver's answer call for: the answer is accepted exactly
-- where it is a model of the formula, and then the names and costs are said that it has through the
-- map.
use Rattle.std.specs.Prelude.{◌≡◌, ◌≢◌, ℕ, ◌==◌, Bool, true, false, List, [], ◌∷◌, Some, None, Result, Ok, Err}
use Rattle.asp_base.specs.Faults.{Fault}
use Rattle.asp_base.specs.Literal.{Pos}
use Rattle.asp_base.specs.Sets.{Set}
use Rattle.clause_store.specs.Clauses.{Clauses}
use Rattle.clause_store.specs.Models.{IsModel, first_false, linked}
use Rattle.graph_cycles.specs.Cycle.{IsCycle}
use Rattle.dimacs_format.specs.Read.{formula_of}
use Rattle.dimacs_format.specs.declared.kind.FormulaKind.{FormulaKind}
use Rattle.symbol_map.specs.Symbols.{Symbols}
use Rattle.symbol_map.specs.Read.{map_of}
use Rattle.symbol_map.specs.Restrict.{names, costs}
use Rattle.symbol_map.specs.declared.kind.MapKind.{MapKind}
use Rattle.back_map.specs.Read.{Answered, has, answer_of}
use Rattle.back_map.specs.declared.answer.AnswerKind.{AnswerKind}
use Rattle.back_map.specs.declared.answer.Status.TheVariants.{Satisfied}
use Rattle.asp_tools.specs.Refusing.{IsRefused}
use Rattle.asp_tools.specs.Sayings.{accepted_text, rejected_clause_text, rejected_cycle_text, no_model_text}
use Rattle.asp_tools.specs.declared.answer.Answer.{Answer}
use Rattle.asp_tools.specs.declared.answer.Answer.TheVariants.{Done, Rejected, NoModelGiven}
use Rattle.asp_tools.specs.declared.outcome.Kind.TheVariants as kinds
use Rattle.asp_tools.specs.declared.outcome.Why.TheVariants.{Clause, Cycle}

-- the assignment of an answer: variables that it does not name are false
abbrev pub values_of : Answered → Set
values_of x v = has (Pos v) x.lits

-- an answer without fault
abbrev pub Judges : Clauses → Symbols → Answered → Answer → List ℕ → Type 0
Judges F m x Done said =
    (x.status ≡ Satisfied) × IsModel F (values_of x) ×
    (said ≡ accepted_text (names m (values_of x)) (costs m (values_of x)))
Judges F m x (Rejected (Clause place)) said =
    (x.status ≡ Satisfied) × (first_false F.hard (values_of x) ≡ Some place) ×
    (said ≡ rejected_clause_text place)
Judges F m x (Rejected (Cycle walk)) said =
    (x.status ≡ Satisfied) × (first_false F.hard (values_of x) ≡ None) ×
    IsCycle (linked F.edges (values_of x)) walk × (said ≡ rejected_cycle_text walk)
Judges F m x NoModelGiven said = (x.status ≢ Satisfied) × (said ≡ no_model_text)
Judges F m x answer said = ⊥

abbrev pub OfAnswer : Clauses → Symbols → Result Answered (Fault AnswerKind) → Answer → List ℕ
    → Type 0
OfAnswer F m (Err fault) answer said =
    IsRefused 3 fault.line (kinds.Answer fault.kind) answer said
OfAnswer F m (Ok x) answer said = Judges F m x answer said

-- by whether formula and map have as many variables
abbrev pub OfBoth : Bool → Clauses → Symbols → List ℕ → Answer → List ℕ → Type 0
OfBoth false F m values answer said = IsRefused 2 0 (kinds.Mismatch F.vars m.vars) answer said
OfBoth true F m values answer said = OfAnswer F m (answer_of values F.vars) answer said

abbrev pub OfMap : Clauses → Result Symbols (Fault MapKind) → List ℕ → Answer → List ℕ → Type 0
OfMap F (Err fault) values answer said = IsRefused 2 fault.line (kinds.Map fault.kind) answer said
OfMap F (Ok m) values answer said = OfBoth (F.vars == m.vars) F m values answer said

abbrev pub OfFormula : Result Clauses (Fault FormulaKind) → List ℕ → List ℕ → Answer → List ℕ
    → Type 0
OfFormula (Err fault) table values answer said =
    IsRefused 1 fault.line (kinds.Formula fault.kind) answer said
OfFormula (Ok F) table values answer said = OfMap F (map_of table) values answer said

-- the first faults in the order of the files, a mismatch before the answer's
abbrev pub BackAnswers : List (List ℕ) → Answer → List (List ℕ) → List ℕ → Type 0
BackAnswers (formula ∷ table ∷ values ∷ []) answer made said =
    OfFormula (formula_of formula) table values answer said × (made ≡ [])
BackAnswers texts answer made said = ⊥
