use Rattle.std.proofs.Common.{◌≡◌, ◌∙◌, ap, subst, List}
use Rattle.std.specs.Result.{IfOk}
use Rattle.std.specs.Option.{IsNone, IfSome}
use Rattle.asp_base.specs.Walks.{Acyclic}
use Rattle.graph_cycles.specs.Cycle.{IsCycle}
use Rattle.clause_store.specs.Assigned.{true_in}
use Rattle.clause_store.specs.Clauses.{Clauses}
use Rattle.clause_store.specs.Models.{linked}
use Rattle.clause_store.specs.declared.formula.LitEdge.{LitEdge}
use Rattle.clause_store.proofs.formula.Formula.cycle.Goals as goal

pub returns-clause-none : goal.returns-clause-none
returns-clause-none c =
    let edges : c.as_slice.result.now ≡ c.args.self.now.edges = c.as_slice.ensures ∙ ap (λ (F : Clauses). F.edges) c.self.view_is in
    subst (λ (es : List LitEdge). IfOk c.linked_cycle.result (λ found. IsNone found → Acyclic (linked es (true_in c.args.values.now)))) edges c.linked_cycle.ensures.none

pub returns-clause-cycle : goal.returns-clause-cycle
returns-clause-cycle c =
    let edges : c.as_slice.result.now ≡ c.args.self.now.edges = c.as_slice.ensures ∙ ap (λ (F : Clauses). F.edges) c.self.view_is in
    subst (λ (es : List LitEdge). IfOk c.linked_cycle.result (λ found. IfSome found (λ walk. IsCycle (linked es (true_in c.args.values.now)) walk))) edges c.linked_cycle.ensures.cycle
