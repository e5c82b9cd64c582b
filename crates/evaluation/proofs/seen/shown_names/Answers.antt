use Rattle.std.proofs.Common.{◌≡◌, ◌∙◌, sym, ap, ap₂, List}
use Rattle.std.proofs.lemmas.Bool.{cond-true, cond-false}
use Rattle.asp_base.specs.Literal.{Literal, all_hold}
use Rattle.evaluation.specs.private.Names.{put_name}
use Rattle.evaluation.proofs.FirstOnes.{names_of-next}
use Rattle.evaluation.proofs.seen.shown_names.Goals as goal
use Rattle.evaluation.proofs.seen.shown_names.Goals.{then-all_hold+in_ok-insert, else-all_hold}

pub loop-show-preserved : goal.loop-show-preserved
loop-show-preserved g c =
    let M = g.I.Interpretation.truth c.args.truth.now in
    let x = c.show-item.result in
    let test : all_hold x.condition M M ≡ c.all_hold.result = sym (c.all_hold.ensures ∙ ap (λ (lits : List Literal). all_hold lits M M) c.as_slice.ensures) in
    let next = names_of-next c.args.shows.now c.loop-show.show-index x M c.loop-show-test.true c.show-item.is in
    elim c.if-all_hold.branch [
      | then-all_hold+in_ok-insert w ↦
          w.names-is
          ∙ w.in_ok-insert.ensures
          ∙ ap₂ put_name c.loop-show.invariant w.as_slice-then-all_hold.ensures
          ∙ sym (next ∙ cond-true _ _ _ (test ∙ w.if-all_hold.true))
      | else-all_hold w ↦ w.names-is ∙ c.loop-show.invariant ∙ sym (next ∙ cond-false _ _ _ (test ∙ w.if-all_hold.false))
    ]
