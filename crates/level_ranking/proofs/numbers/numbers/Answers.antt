-- There is room for the digits of the atom at hand, whose variable is its place.
use Rattle.std.proofs.Common.{◌≡◌, ◌∙◌, sym, ap, ap₂, refl, subst, ◌<◌, ◌+◌, ◌^◌, [], arith, cond, get_or}
use Rattle.rising_numbers.specs.Rising.{RisesFrom, place}
use Rattle.rising_numbers.proofs.PlaceLaws.{place-at}
use Rattle.level_ranking.specs.private.Sources.{width_among, is_ranked}
use Rattle.level_ranking.specs.Encoding.{after_atom_digits}
use Rattle.digit_gates.specs.DigitGates.{variables_from}
use Rattle.level_ranking.proofs.Numbering.{numbering-room, numbering-next}
use Rattle.level_ranking.proofs.numbers.numbers.Goals as goal

pub add_number-requires-clause-room : goal.add_number-requires-clause-room
add_number-requires-clause-room c =
    let x = get_or c.args.atoms.now c.loop-i.i 0 in
    subst (λ atoms. c.loop-i.store.vars + cond (is_ranked c.args.parts.now x) (width_among c.args.parts.now atoms x) 0 < 2 ^ 31) (sym c.requires.same)
    (numbering-room c.args.atoms.now c.args.parts.now c.args.store.now c.loop-i.store c.loop-i.table.items c.loop-i.i x c.loop-i-test.true refl c.loop-i.invariant (2 ^ 31) c.requires.room)

pub loop-i-preserved : goal.loop-i-preserved
loop-i-preserved c =
    let x = get_or c.args.atoms.now c.loop-i.i 0 in
    let d = c.args.parts.now in
    let now = c.loop-i.store in
    let at = place-at 0 c.args.atoms.now c.loop-i.i (subst (RisesFrom 0) c.requires.same c.requires.numbered.rise) c.loop-i-test.true in
    let p : c.loop-i.i + 1 ≡ place c.args.atoms.now (get_or c.args.atoms.now c.loop-i.i 0) = omega (arith, at) in
    rw c.in_ok-push.ensures.items
    (numbering-next c.args.atoms.now c.args.parts.now c.args.store.now c.loop-i.store c.loop-i.table.items c.loop-i.i x c.loop-i-test.true refl c.loop-i.invariant
    (c.loop-i.i + 1) (omega arith) c.add_number.new.store c.in_ok-number.number
    (c.in_ok-number.ensures.store ∙ ap₂ (λ v atoms. cond (is_ranked d x) (after_atom_digits v (width_among d atoms x) now) now) p c.requires.same)
    (c.in_ok-number.ensures.digits ∙ ap (λ atoms. cond (is_ranked d x) (variables_from (width_among d atoms x) now.vars) []) c.requires.same))
