-- From the encoding to the given program.
use Rattle.std.proofs.Common.{sym, subst}
use Rattle.ground_program.specs.Facts.{IsProgram}
use Rattle.acyc_translation.specs.Encoded.{StandsThrough}
use Rattle.acyc_translation.proofs.EncodedLaws.{through-map}
use Rattle.acyc_translation.proofs.translation.translate.Goals as goal

pub returns-in_ok-translated-in-Ok-clause-stands : goal.returns-in_ok-translated-in-Ok-clause-stands
returns-in_ok-translated-in-Ok-clause-stands c =
    subst (λ m. StandsThrough c.args.encoding c.args.program c.in_ok-translated-in-Ok.field-0.formula m) (sym c.in_ok-translated-in-Ok.ensures.map)
    (through-map c.args.encoding c.args.program c.in-Ok.made c.in_ok-translated-in-Ok.field-0.formula (subst IsProgram c.program.view_is c.program.invariant)
    c.known.ensures.facts c.in-Ok.ensures.acyclic.atoms c.in-Ok.ensures.levels c.in-Ok.ensures.acyclic.stands c.in_ok-translated-in-Ok.ensures.stable)
