-- What is left to show of `rules_of_all`.
use Rattle.std.proofs.Common.{◌++◌, ap, ap₂, ◌∙◌}
use Rattle.std.specs.List.{flat_map}
use Rattle.components.specs.Divided.{cyclic_numbers, part_of}
use Rattle.acyc_edges.specs.Encoding.{kept_rules}
use Rattle.acyc_edges.specs.private.Setting.{rules_by}
use Rattle.acyc_edges.proofs.FitLaws.{names-fit}
use Rattle.acyc_edges.proofs.SameNumbers.{written-rules}
use Rattle.acyc_edges.proofs.made.rules_of_all.Goals as goal

pub push_all_named-requires : goal.push_all_named-requires
push_all_named-requires c = names-fit c.args.writer.now.setting.now.program c.known.ensures.program (part_of c.args.writer.now.setting.now.parts) (cyclic_numbers c.args.writer.now.setting.now.parts) c.args.names.now c.requires.names

pub returns : goal.returns
returns c =
    c.in_ok-push_all_named.ensures
    ∙ (ap₂ (λ rs ps. rs ++ flat_map (rules_by c.args.writer.now.setting.now ps) c.args.names.now)
    (c.in_ok-rules.ensures ∙ ap₂ (λ g d. kept_rules g (part_of d) (cyclic_numbers d)) c.program.ensures c.parts.ensures) c.requires.numbers
    ∙ ap (λ rs. kept_rules c.args.writer.now.setting.now.program (part_of c.args.writer.now.setting.now.parts) (cyclic_numbers c.args.writer.now.setting.now.parts) ++ rs) (written-rules c.args.writer.now.setting.now.program (part_of c.args.writer.now.setting.now.parts) (cyclic_numbers c.args.writer.now.setting.now.parts) c.args.names.now c.requires.names))
