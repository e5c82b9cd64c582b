-- The rule that stands at the place, with the literal of its body.
use Rattle.std.proofs.Common.{◌≡◌, ◌∙◌, sym, ap, ap₂, subst, get_or, List, ℕ, ◌<◌, ◌+◌, ◌-◌, ◌∷◌, [], map, arith, length}
use Rattle.asp_base.specs.Sets.{members, once}
use Rattle.rising_numbers.specs.Rising.{place}
use Rattle.level_ranking.specs.Components.{component, atoms_of_part}
use Rattle.components.specs.Divided.{part_of}
use Rattle.level_ranking.specs.Encoding.{Row, positive_in}
use Rattle.level_ranking.specs.private.Sources.{placed}
use Rattle.level_ranking.proofs.InsideLaws.{row-at, body-at, body-is}
use Rattle.level_ranking.proofs.ReadyLaws.{bodies-length}
use Rattle.level_ranking.proofs.gathering.ranked_rule.Goals as goal

pub returns : goal.returns
returns c =
    let S = component c.args.sources.now.given.program.now (part_of c.args.sources.now.given.parts.now) c.args.part in
    let rule = c.index-as_slice-place.result in
    let body = c.literal-body.result in
    let atoms_are = ap (λ p. p.atoms) c.program.view_is in
    let rules_are = c.as_slice.ensures ∙ ap (λ p. p.rules) c.program.view_is in
    let within : c.args.place < length c.args.sources.now.given.bodies.now = omega (arith, c.requires.within, bodies-length c.args.sources.now c.known.ensures.facts c.requires.ready) in
    let read = subst (λ rules. c.index-as_slice-place.result ≡ get_or rules c.args.place c.index-as_slice-place.result) rules_are c.index-as_slice-place.is in
    let at = row-at S c.args.sources.now.given.program.now.rules c.args.sources.now.given.bodies.now c.args.place rule body c.requires.within read
    (body-at c.args.sources.now.given.bodies.now c.args.place (c.from.result + 1) body (omega (arith, c.from.ensures)) within c.literal-body.ensures.none c.literal-body.ensures.literal) in
    let items = c.in_ok-inside.ensures
    ∙ (ap₂ (λ atoms lits. map (λ b. place atoms b - 1) (once (positive_in (members (atoms_of_part (part_of c.args.sources.now.given.parts.now) c.args.part atoms)) lits))) atoms_are c.literals.ensures
    ∙ ap (λ bs. map (λ b. place c.args.sources.now.given.program.now.atoms b - 1) (once bs)) (body-is S rule.body)) in
    let with_places : List ℕ → Row = λ places. record { body = body; inside = places } in
    ap (λ places. with_places places ∷ []) items ∙ ap (map (placed c.args.sources.now.given.program.now.atoms)) (sym at)
