-- From the normal program to the given one.
use Rattle.std.proofs.Common.{rules, ◌≡◌, [], subst}
use Rattle.ground_program.specs.Facts.{IsProgram}
use Rattle.sat_translation.proofs.SoftenedLaws.{answered-faithful, answered-fits}
use Rattle.sat_translation.proofs.softened.translate_soft.Goals as goal

pub returns-in-Ok-clause-faithful : goal.returns-in-Ok-clause-faithful
returns-in-Ok-clause-faithful c =
    let none : c.args.program.edges ≡ [] = search rules in
    answered-faithful c.args.program c.in-Ok.made.program c.softened.result c.in-Ok.made.given c.in-Ok.ensures.given (subst IsProgram c.program.view_is c.program.invariant) c.known.ensures.facts none
    c.in-Ok.ensures.faithful c.in-Ok.ensures.rest c.in-Ok.ensures.atoms c.softened.ensures.ranked c.softened.ensures.map c.softened.ensures.soft

pub returns-in-Ok-clause-small : goal.returns-in-Ok-clause-small
returns-in-Ok-clause-small c = answered-fits c.args.program c.in-Ok.made.program c.softened.result c.in-Ok.ensures.size c.softened.ensures.size
