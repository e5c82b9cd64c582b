-- What is left to show of `push_backed`.
use Rattle.std.proofs.Common.{◌++◌, [], ◌∷◌, ap, ap₂, ◌∙◌}
use Rattle.acyc_edges.proofs.NameOrder.{append-more}
use Rattle.acyc_edges.proofs.WrittenLaws.{backed-name, limit}
use Rattle.acyc_edges.proofs.named.push_backed.Goals as goal
use Rattle.components.specs.Divided.{part_of}

pub returns : goal.returns
returns c =
    c.in_ok-push_limit.ensures
    ∙ (ap₂ (λ rs n. rs ++ (limit c.args.atom n ∷ [])) c.in_ok-push_backing.ensures c.of.ensures.is
    ∙ (append-more c.args.rules.now _ _
    ∙ ap (λ rs. c.args.rules.now ++ rs) (backed-name c.args.writer.now.setting.now.program (part_of c.args.writer.now.setting.now.parts) c.args.writer.now.numbers.now c.args.atom)))
