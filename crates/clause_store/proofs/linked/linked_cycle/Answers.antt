use Rattle.std.proofs.Common.{◌≡◌, ◌∙◌, ap, subst, ℤ, Bool}
use Rattle.std.specs.Result.{IfOk}
use Rattle.std.specs.Option.{IsNone, IfSome}
use Rattle.asp_base.specs.Walks.{Acyclic}
use Rattle.graph_cycles.specs.Cycle.{leads, IsCycle}
use Rattle.clause_store.specs.Assigned.{true_in}
use Rattle.clause_store.specs.Models.{linked}
use Rattle.clause_store.proofs.LinkedLaws.{graph-linked}
use Rattle.clause_store.proofs.linked.linked_cycle.Goals as goal

pub returns-clause-none : goal.returns-clause-none
returns-clause-none c =
    let graph : leads c.as_slice.result.now ≡ linked c.args.edges.now (true_in c.args.values.now) =
    ap leads (c.as_slice.ensures.value ∙ c.in_ok-list.ensures) ∙ graph-linked c.args.edges.now (true_in c.args.values.now) in
    subst (λ (step : ℤ → ℤ → Bool). IfOk c.find_cycle.result (λ found. IsNone found → Acyclic step)) graph c.find_cycle.ensures.none

pub returns-clause-cycle : goal.returns-clause-cycle
returns-clause-cycle c =
    let graph : leads c.as_slice.result.now ≡ linked c.args.edges.now (true_in c.args.values.now) =
    ap leads (c.as_slice.ensures.value ∙ c.in_ok-list.ensures) ∙ graph-linked c.args.edges.now (true_in c.args.values.now) in
    subst (λ (step : ℤ → ℤ → Bool). IfOk c.find_cycle.result (λ found. IfSome found (λ walk. IsCycle step walk))) graph c.find_cycle.ensures.cycle
