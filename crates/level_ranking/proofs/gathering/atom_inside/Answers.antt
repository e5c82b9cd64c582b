-- The atom of the literal is one of the component just where its number is that of the component.
use Rattle.std.proofs.Common.{sym, ◌∙◌, ap, ◌∷◌, []}
use Rattle.std.proofs.lemmas.Bool.{ne_eqb}
use Rattle.asp_base.specs.Literal.{atom_of}
use Rattle.components.specs.Divided.{part_of}
use Rattle.level_ranking.proofs.SourceLaws.{inside-true, inside-other}
use Rattle.level_ranking.proofs.gathering.atom_inside.Goals as goal

pub returns-then-number-part : goal.returns-then-number-part
returns-then-number-part c = (
  c.var-then-number-part.ensures.is,
  inside-true (part_of c.args.parts.now) c.args.parts.now.atoms c.args.part c.args.lit (sym c.is_positive.ensures ∙ c.if-is_positive.true) c.requires.among
      (ap (part_of c.args.parts.now) (sym c.var.ensures.is) ∙ (sym c.in-Some.ensures.number ∙ c.if-number-part.true))
      ∙ ap (λ a. a ∷ []) (sym c.var-then-number-part.ensures.is),
)

pub returns-else-number-part : goal.returns-else-number-part
returns-else-number-part c =
    inside-other (part_of c.args.parts.now) c.args.parts.now.atoms c.args.part c.args.lit
    (ne_eqb (part_of c.args.parts.now (atom_of c.args.lit)) c.args.part
    (λ e. c.if-number-part.false (c.in-Some.ensures.number ∙ (ap (part_of c.args.parts.now) c.var.ensures.is ∙ e))))
