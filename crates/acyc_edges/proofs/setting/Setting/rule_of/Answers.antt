-- What is left to show of `rule_of`.
use Rattle.std.proofs.Common.{ap, ◌∙◌, slice_index_or}
use Rattle.acyc_edges.proofs.Numbering.{rule-there}
use Rattle.acyc_edges.proofs.setting.Setting.rule_of.Goals as goal

pub returns : goal.returns
returns c =
    let same = c.as_slice.ensures ∙ (ap (λ g. g.rules) c.program.view_is ∙ ap (λ g. g.program.rules) c.self.view_is) in
    c.index-as_slice-index.is ∙ (ap (λ rs. slice_index_or rs c.args.index c.index-as_slice-index.result) same ∙ rule-there c.args.self.now.program.rules c.args.index c.index-as_slice-index.result c.requires)
