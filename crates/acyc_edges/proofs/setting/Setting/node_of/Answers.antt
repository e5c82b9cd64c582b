-- What is left to show of `node_of`.
use Rattle.std.proofs.Common.{◌≡◌, ◌<◌, ◌^◌, pos, ap, ap₂, sym, ◌∙◌, arith, w32, to_z-of_z}
use mir.Val.{to_z, of_z}
use Rattle.std.proofs.lemmas.Int.{to_z_pos}
use Rattle.std.specs.Ordering.{int_eq}
use Rattle.acyc_edges.specs.Encoding.{nodes_of}
use Rattle.acyc_edges.specs.Names.{index_by}
use Rattle.acyc_edges.specs.private.Nodes.{node_at}
use Rattle.acyc_edges.proofs.NodeLaws.{index-map}
use Rattle.acyc_edges.proofs.setting.Setting.node_of.Goals as goal

pub returns : goal.returns
returns c =
    let most = c.index_of.ensures.most in
    let few = c.self.invariant.nodes.few in
    let bound : c.index_of.result < 2 ^ 31 = omega arith in
    let raised : node_at c.raised.result ≡ c.args.node = grind (arith, to_z-of_z) in
    ap (λ z. to_z w32 (of_z w32 z)) c.signed.ensures
    ∙ (to_z_pos w32 c.index_of.result bound
    ∙ ap pos (c.index_of.ensures.is ∙ (sym (index-map c.self.inside.nodes.given c.raised.result) ∙ (ap₂ (index_by int_eq) c.self.invariant.nodes.given raised ∙ ap (λ g. index_by int_eq (nodes_of g.program.edges) c.args.node) c.self.view_is))))
