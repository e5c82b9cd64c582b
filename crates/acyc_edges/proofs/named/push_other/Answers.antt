-- What is left to show of `push_other`.
use Rattle.std.proofs.Common.{◌≤◌, ◌++◌, [], length, map, ap, subst, ◌∙◌, arith}
use Rattle.acyc_edges.specs.Encoding.{inner_at, rules_of}
use Rattle.acyc_edges.specs.private.Written.{later_rule}
use Rattle.acyc_edges.proofs.TableLaws.{take-past}
use Rattle.acyc_edges.proofs.WrittenLaws.{other-name}
use Rattle.acyc_edges.proofs.named.push_other.Goals as goal
use Rattle.components.specs.Divided.{part_of}

pub returns : goal.returns
returns c =
    let past : length (rules_of c.args.writer.now.setting.now.program (part_of c.args.writer.now.setting.now.parts) [] c.args.atom) ≤ c.loop-index.index-index = subst (λ xs. length xs ≤ c.loop-index.index-index) c.rules_of-index-items.ensures.are (omega arith) in
    c.loop-index.invariant
    ∙ (ap (λ is. c.args.rules.now ++ map (later_rule c.args.writer.now.numbers.now (inner_at c.args.writer.now.setting.now.program (part_of c.args.writer.now.setting.now.parts) []) c.args.atom c.args.other) is) (take-past c.loop-index.index-index (rules_of c.args.writer.now.setting.now.program (part_of c.args.writer.now.setting.now.parts) [] c.args.atom) past)
    ∙ ap (λ rs. c.args.rules.now ++ rs) (other-name c.args.writer.now.setting.now.program (part_of c.args.writer.now.setting.now.parts) c.args.writer.now.numbers.now c.args.atom c.args.other c.requires.differ))
