-- An atom is seen or is a further one, and another literal changes nothing.
use Rattle.std.proofs.Common.{◌≡◌, ◌∙◌, sym, ap, subst, ◌-◌, ◌∷◌, [], map, arith}
use Rattle.std.proofs.lemmas.List.{take_all}
use Rattle.asp_base.specs.Sets.{members, once}
use Rattle.rising_numbers.specs.Rising.{place}
use Rattle.level_ranking.specs.Encoding.{positive_in}
use Rattle.level_ranking.specs.Components.{atoms_of_part}
use Rattle.components.specs.Divided.{part_of}
use Rattle.level_ranking.specs.private.Sources.{with_once}
use Rattle.level_ranking.proofs.InsideLaws.{once-same, once-next}
use Rattle.level_ranking.proofs.gathering.places_inside.Goals as goal
use Rattle.level_ranking.proofs.gathering.places_inside.Goals.{in-Some+in_ok-push_once, in_default}

pub loop-lit-preserved : goal.loop-lit-preserved
loop-lit-preserved c =
    let S = members (atoms_of_part (part_of c.args.parts.now) c.args.part c.args.atoms.now) in
    let lits = c.args.lits.now in
    let i = c.loop-lit.lit-index in
    elim c.match-atom_inside.branch [
      | in-Some+in_ok-push_once w ↦ rw (w.seen-is, w.places-is) (record {
        seen =
            w.in_ok-push_once.ensures.seen
            ∙ (ap (with_once w.in-Some.atom) c.loop-lit.invariant.seen
            ∙ sym (once-next S lits i c.lit-item.result w.in-Some.atom c.loop-lit-test.true c.lit-item.is
            (subst (λ atoms. positive_in (members (atoms_of_part (part_of c.args.parts.now) c.args.part atoms)) (c.lit-item.result ∷ []) ≡ w.in-Some.atom ∷ []) c.requires.same w.in-Some.ensures.1)));
        places = w.in_ok-push_once.ensures.places c.loop-lit.invariant.places;
      })
      | in_default w ↦ rw (w.seen-is, w.places-is) (record {
        seen =
            c.loop-lit.invariant.seen
            ∙ sym (once-same S lits i c.lit-item.result c.loop-lit-test.true c.lit-item.is
            (subst (λ atoms. positive_in (members (atoms_of_part (part_of c.args.parts.now) c.args.part atoms)) (c.lit-item.result ∷ []) ≡ []) c.requires.same w.in_default.ensures));
        places = c.loop-lit.invariant.places;
      })
    ]

pub returns : goal.returns
returns c =
    c.loop-lit.invariant.places
    ∙ ap (map (λ b. place c.args.atoms.now b - 1))
    (c.loop-lit.invariant.seen
    ∙ ap (λ lits. once (positive_in (members (atoms_of_part (part_of c.args.parts.now) c.args.part c.args.atoms.now)) lits)) (take_all c.loop-lit.lit-index c.args.lits.now (omega arith)))
