-- The reply to the values of an answer.
use Rattle.std.specs.Prelude.{◌≡◌, ℕ, List, Some, None}
use Rattle.asp_base.specs.Sets.{Set}
use Rattle.clause_store.specs.Clauses.{Clauses}
use Rattle.clause_store.specs.Models.{IsModel, first_false, linked}
use Rattle.graph_cycles.specs.Cycle.{IsCycle}
use Rattle.symbol_map.specs.Symbols.{Symbols}
use Rattle.symbol_map.specs.Restrict.{names, costs}
use Rattle.asp_tools.specs.Sayings.{accepted_text, rejected_clause_text, rejected_cycle_text}
use Rattle.asp_tools.specs.declared.answer.Answer.{Answer}
use Rattle.asp_tools.specs.declared.answer.Answer.TheVariants.{Done, Rejected}
use Rattle.asp_tools.specs.declared.outcome.Why.TheVariants.{Clause, Cycle}

abbrev pub OnValues : Clauses → Symbols → Set → Answer → List ℕ → Type 0
OnValues F m A Done said = IsModel F A × (said ≡ accepted_text (names m A) (costs m A))
OnValues F m A (Rejected (Clause place)) said =
    (first_false F.hard A ≡ Some place) × (said ≡ rejected_clause_text place)
OnValues F m A (Rejected (Cycle walk)) said =
    (first_false F.hard A ≡ None) × IsCycle (linked F.edges A) walk ×
    (said ≡ rejected_cycle_text walk)
OnValues F m A answer said = ⊥
