-- One more atom behind its number.
use Rattle.std.proofs.Common.{[], ◌∷◌, ◌++◌, get_or, arith, ap, sym, ◌∙◌}
use Rattle.std.proofs.lemmas.List.FromFn.{map-range_with_len_more}
use Rattle.components.proofs.finding.behind_numbers.Goals as goal

pub loop-place-preserved : goal.loop-place-preserved
loop-place-preserved c =
    c.in_ok-push.ensures.items
    ∙ ap (λ n. c.loop-place.pairs.items ++ ((n, get_or c.args.atoms.now c.loop-place.place 0) ∷ [])) c.number.ensures
    ∙ ap (λ l. l ++ ((get_or c.args.parts.now.numbers c.loop-place.place 0, get_or c.args.atoms.now c.loop-place.place 0) ∷ [])) c.loop-place.invariant
    ∙ sym (map-range_with_len_more (λ j. (get_or c.args.parts.now.numbers j 0, get_or c.args.atoms.now j 0)) 0 c.loop-place.place c.loop-place.place (omega arith))
