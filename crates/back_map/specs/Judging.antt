-- What an assignment shows of a program through a map, where it is a model of the formula.
use Rattle.std.specs.Prelude.{◌≡◌, ◌≢◌, ⊤, Some, None}
use Rattle.asp_base.specs.Sets.{Set}
use Rattle.graph_cycles.specs.Cycle.{IsCycle}
use Rattle.clause_store.specs.Clauses.{Clauses}
use Rattle.clause_store.specs.Models.{IsModel, first_false, linked}
use Rattle.symbol_map.specs.Symbols.{Symbols}
use Rattle.symbol_map.specs.Restrict.{names, costs}
use Rattle.back_map.specs.declared.judge.Judged.{Judged}
use Rattle.back_map.specs.declared.judge.Judged.TheVariants.{Accepted, FalseClause, Cycle}
use Rattle.back_map.specs.declared.judge.BackRefusal.{BackRefusal}
use Rattle.back_map.specs.declared.judge.BackRefusal.TheVariants.{Mismatch, Memory}

-- the judgement of an assignment: what a model shows and costs, the place of the first clause that
-- the assignment makes false, or, where there is none, a cycle of the edges whose literal is true
abbrev pub JudgedAs : Clauses → Symbols → Set → Judged → Type 0
JudgedAs F m A (Accepted seen) =
    IsModel F A × (seen.names ≡ names m A) × (seen.costs ≡ costs m A)
JudgedAs F m A (FalseClause n) = first_false F.hard A ≡ Some n
JudgedAs F m A (Cycle walk) = (first_false F.hard A ≡ None) × IsCycle (linked F.edges A) walk

-- why there is no judgement: the map is one of another number of variables, or memory ran out
abbrev pub RefusedAs : Clauses → Symbols → BackRefusal → Type 0
RefusedAs F m (Mismatch f v) = (f ≡ F.vars) × (v ≡ m.vars) × (F.vars ≢ m.vars)
RefusedAs F m Memory = ⊤
