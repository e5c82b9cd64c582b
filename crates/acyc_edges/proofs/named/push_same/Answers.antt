-- What is left to show of `push_same`.
use Rattle.std.proofs.Common.{◌++◌, [], ◌∷◌, ap, ◌∙◌}
use Rattle.acyc_edges.specs.declared.name.Name.TheVariants.{NoLater}
use Rattle.acyc_edges.specs.private.Numbers.{number_of}
use Rattle.acyc_edges.proofs.NameOrder.{append-more}
use Rattle.acyc_edges.proofs.WrittenLaws.{same-name, limit}
use Rattle.acyc_edges.proofs.named.push_same.Goals as goal
use Rattle.components.specs.Divided.{part_of}

pub returns : goal.returns
returns c =
    c.in_ok-push_held.ensures
    ∙ (ap (λ rs. rs ++ (limit c.args.atom (number_of c.args.writer.now.numbers.now (NoLater c.args.atom c.args.atom)) ∷ [])) c.in_ok-push_self.ensures
    ∙ (append-more c.args.rules.now _ _
    ∙ ap (λ rs. c.args.rules.now ++ rs) (same-name c.args.writer.now.setting.now.program (part_of c.args.writer.now.setting.now.parts) c.args.writer.now.numbers.now c.args.atom)))
