use Rattle.std.proofs.Common.{◌≡◌, ◌∙◌, ap, subst, ℤ, Bool}
use Rattle.std.specs.Result.{IfOk}
use Rattle.std.specs.Option.{IsNone, IfSome}
use Rattle.asp_base.specs.Sets.{members}
use Rattle.asp_base.specs.Walks.{Acyclic}
use Rattle.graph_cycles.specs.Cycle.{leads, IsCycle}
use Rattle.ground_program.specs.Stable.{joined}
use Rattle.stable_check.proofs.VerdictLaws.{graph-joined}
use Rattle.stable_check.proofs.checking.joined_cycle.Goals as goal

pub returns-clause-none : goal.returns-clause-none
returns-clause-none c =
    let graph : leads c.as_slice.result.now ≡ joined c.args.edges.now (members c.args.set.now) =
    ap leads (c.as_slice.ensures.value ∙ c.in_ok-list.ensures) ∙ graph-joined c.args.edges.now (members c.args.set.now) in
    subst (λ (step : ℤ → ℤ → Bool). IfOk c.find_cycle.result (λ found. IsNone found → Acyclic step)) graph c.find_cycle.ensures.none

pub returns-clause-cycle : goal.returns-clause-cycle
returns-clause-cycle c =
    let graph : leads c.as_slice.result.now ≡ joined c.args.edges.now (members c.args.set.now) =
    ap leads (c.as_slice.ensures.value ∙ c.in_ok-list.ensures) ∙ graph-joined c.args.edges.now (members c.args.set.now) in
    subst (λ (step : ℤ → ℤ → Bool). IfOk c.find_cycle.result (λ found. IfSome found (λ walk. IsCycle step walk))) graph c.find_cycle.ensures.cycle
