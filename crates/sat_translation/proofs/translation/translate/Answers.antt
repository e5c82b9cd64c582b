-- From the normal program to the given one.
use Rattle.std.proofs.Common.{rules, ◌≡◌, ◌∙◌, ℕ, List, [], ap, sym, subst}
use Rattle.ground_program.specs.Facts.{IsProgram}
use Rattle.symbol_map.specs.FaithfulMap.{FaithfulMap}
use Rattle.sat_translation.specs.InputMap.{input_map}
use Rattle.sat_translation.proofs.MadeLaws.{made-faithful, made-fits}
use Rattle.sat_translation.proofs.translation.translate.Goals as goal

pub returns-in_ok-translated-in-Ok-clause-faithful : goal.returns-in_ok-translated-in-Ok-clause-faithful
returns-in_ok-translated-in-Ok-clause-faithful c =
    let none : c.args.program.edges ≡ [] = search rules in
    subst (λ m. FaithfulMap c.args.program c.in_ok-translated-in-Ok.field-0.formula m) (sym (c.in_ok-translated-in-Ok.ensures.map ∙ ap (λ (atoms : List ℕ). input_map c.in-Ok.made.program atoms c.in_ok-translated-in-Ok.field-0.formula.vars) c.in-Ok.ensures.given))
    (made-faithful c.args.program c.in-Ok.made.program c.in_ok-translated-in-Ok.field-0.formula (subst IsProgram c.program.view_is c.program.invariant)
    c.known.ensures.facts none c.in-Ok.ensures.faithful c.in-Ok.ensures.rest c.in-Ok.ensures.atoms c.in_ok-translated-in-Ok.ensures.ranked)

pub returns-in_ok-translated-in-Ok-clause-small : goal.returns-in_ok-translated-in-Ok-clause-small
returns-in_ok-translated-in-Ok-clause-small c =
    made-fits c.args.program c.in-Ok.made.program c.in_ok-translated-in-Ok.field-0.formula c.in-Ok.ensures.size c.in_ok-translated-in-Ok.ensures.size
