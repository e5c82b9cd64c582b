-- One more show is renamed where it stands.
use Rattle.std.proofs.Common.{◌≡◌, ◌∙◌, sym, ap, subst, ℕ, ◌<◌, List, length, set, get_or, add-one, arith}
use Rattle.std.specs.List.{AllByRecursion}
use Rattle.std.proofs.lemmas.List.{drop_more}
use Rattle.ground_program.specs.Facts.{Among, ShowFits}
use Rattle.ground_program.specs.declared.program.Show.{Show}
use Rattle.sat_translation.specs.InputMap.{show_over}
use Rattle.sat_translation.proofs.RenamedLaws.{renamed_to, renamed-length, renamed-here, renamed-next}
use Rattle.sat_translation.proofs.mapping.shows_over.Goals as goal

pub loop-show-preserved : goal.loop-show-preserved
loop-show-preserved c =
    let xs : List Show = c.args.shows in
    let i : ℕ = c.loop-show.show-index in
    let f : Show → Show = show_over c.args.atoms.now in
    let x : Show = c.show-item.result in
    let same : length c.loop-show.show-items ≡ length xs = ap length c.loop-show.invariant.made ∙ renamed-length f xs i in
    let below : i < length xs = omega (arith, same, c.loop-show-test.true) in
    let is : get_or c.loop-show.show-items i x ≡ get_or xs i x = ap (λ ys. get_or ys i x) c.loop-show.invariant.made ∙ renamed-here f xs i x below in
    record {
      made = ap (λ ys. set ys i c.rename.new.show) c.loop-show.invariant.made
          ∙ renamed-next f xs i x c.rename.new.show below (c.in_ok-rename.ensures ∙ ap f is)
          ∙ ap (λ k. renamed_to f k xs) (sym (add-one i));
      fit = (subst (AllByRecursion (ShowFits (Among c.args.atoms.now))) (drop_more xs i x below) c.loop-show.invariant.fit).1;
    }
