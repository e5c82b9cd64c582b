-- What is left to show of `edges_of_all`.
use Rattle.std.proofs.Common.{◌++◌, ap, ap₂, ◌∙◌}
use Rattle.std.specs.List.{flat_map}
use Rattle.components.specs.Divided.{cyclic_numbers, part_of}
use Rattle.acyc_edges.specs.Encoding.{kept_edges}
use Rattle.acyc_edges.specs.private.Setting.{edges_by}
use Rattle.acyc_edges.proofs.FitLaws.{names-fit}
use Rattle.acyc_edges.proofs.SameNumbers.{written-edges}
use Rattle.acyc_edges.proofs.made.edges_of_all.Goals as goal

pub push_all_edges-requires : goal.push_all_edges-requires
push_all_edges-requires c = names-fit c.args.writer.now.setting.now.program c.known.ensures.program (part_of c.args.writer.now.setting.now.parts) (cyclic_numbers c.args.writer.now.setting.now.parts) c.args.names.now c.requires.names

pub returns : goal.returns
returns c =
    c.in_ok-push_all_edges.ensures
    ∙ (ap₂ (λ es ps. es ++ flat_map (edges_by c.args.writer.now.setting.now ps) c.args.names.now) c.in_ok-edges.ensures c.requires.numbers
    ∙ ap (λ es. kept_edges c.args.writer.now.setting.now.program (part_of c.args.writer.now.setting.now.parts) (cyclic_numbers c.args.writer.now.setting.now.parts) ++ es) (written-edges c.args.writer.now.setting.now.program (part_of c.args.writer.now.setting.now.parts) (cyclic_numbers c.args.writer.now.setting.now.parts) c.args.names.now c.requires.names))
