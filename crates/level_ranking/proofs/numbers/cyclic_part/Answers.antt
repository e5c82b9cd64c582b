-- An atom is ranked just where the component of its number is cyclic.
use Rattle.std.proofs.Common.{sym, ◌∙◌, ap}
use Rattle.graph_parts.specs.Divided.{is_cyclic_at}
use Rattle.level_ranking.proofs.SourceLaws.{ranked-is}
use Rattle.level_ranking.proofs.numbers.cyclic_part.Goals as goal

pub returns-then-is_cyclic : goal.returns-then-is_cyclic
returns-then-is_cyclic c =
    (c.in-Some.ensures.number, ranked-is c.args.parts.now c.requires.numbered c.args.atom c.requires.among ∙ (ap (is_cyclic_at c.args.parts.now.cyclic) (sym c.in-Some.ensures.number) ∙ (sym c.is_cyclic.ensures ∙ c.if-is_cyclic.true)))

pub returns-else-is_cyclic : goal.returns-else-is_cyclic
returns-else-is_cyclic c =
    ranked-is c.args.parts.now c.requires.numbered c.args.atom c.requires.among ∙ (ap (is_cyclic_at c.args.parts.now.cyclic) (sym c.in-Some.ensures.number) ∙ (sym c.is_cyclic.ensures ∙ c.if-is_cyclic.false))
