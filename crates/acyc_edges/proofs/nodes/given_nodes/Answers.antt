-- What is left to show of `given_nodes`.
use Rattle.std.proofs.Common.{ap, ◌∙◌, map}
use Rattle.acyc_edges.specs.private.Nodes.{node_at, ends_of_edges}
use Rattle.acyc_edges.proofs.NodeLaws.{nodes-are}
use Rattle.acyc_edges.proofs.nodes.given_nodes.Goals as goal

pub returns : goal.returns
returns c =
    ap (map node_at) c.in_ok-given.ensures
    ∙ nodes-are c.args.program.now.edges c.in_ok-ends.ends.items (c.in_ok-ends.ensures ∙ ap ends_of_edges (c.as_slice.ensures ∙ ap (λ g. g.edges) c.program.view_is))
