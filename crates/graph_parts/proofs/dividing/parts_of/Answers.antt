-- Edges that are put together by their first nodes are a graph with the same steps.
use Rattle.std.proofs.Common.{◌≡◌, ℕ, Bool, List, ◌∙◌, IfOk, ap₂, subst, subst₂, sym}
use Rattle.graph_parts.specs.Divided.{AreCycles}
use Rattle.graph_parts.specs.Graph.{IsGraph, has_edge, leads}
use Rattle.graph_parts.specs.Parts.{AreParts}
use Rattle.graph_parts.proofs.EdgeLaws.{graph-of_groups, leads-edges}
use Rattle.graph_parts.proofs.dividing.parts_of.Goals as goal

pub divide-requires-clause-graph : goal.divide-requires-clause-graph
divide-requires-clause-graph c =
    subst₂ (λ (starts targets : List ℕ). IsGraph starts targets) (sym c.as_slice.ensures) (sym c.as_slice-2.ensures)
    (graph-of_groups c.args.edges.now c.args.nodes c.in_ok-groups.groups.starts c.in_ok-groups.groups.values c.in_ok-groups.ensures (λ j below. (c.requires.edges j below).1))

pub returns-clause-parts : goal.returns-clause-parts
returns-clause-parts c =
    let same : leads c.as_slice.result.now c.as_slice-2.result.now ≡ has_edge c.args.edges.now = ap₂ leads c.as_slice.ensures c.as_slice-2.ensures
    ∙ leads-edges c.args.edges.now c.args.nodes c.in_ok-groups.groups.starts c.in_ok-groups.groups.values c.in_ok-groups.ensures (λ j below. (c.requires.edges j below).0) in
    subst (λ (step : ℕ → ℕ → Bool). IfOk c.divide.result (λ parts. AreParts step parts.numbers parts.count)) same c.divide.ensures.parts

pub returns-clause-cycles : goal.returns-clause-cycles
returns-clause-cycles c =
    let same : leads c.as_slice.result.now c.as_slice-2.result.now ≡ has_edge c.args.edges.now = ap₂ leads c.as_slice.ensures c.as_slice-2.ensures
    ∙ leads-edges c.args.edges.now c.args.nodes c.in_ok-groups.groups.starts c.in_ok-groups.groups.values c.in_ok-groups.ensures (λ j below. (c.requires.edges j below).0) in
    subst (λ (step : ℕ → ℕ → Bool). IfOk c.divide.result (λ parts. AreCycles step parts.numbers parts.cyclic)) same c.divide.ensures.cycles
