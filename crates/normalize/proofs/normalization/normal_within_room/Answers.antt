-- What is said of the made program, by the laws of the stage that it is made of.
use Rattle.std.proofs.Common.{◌≡◌, ◌≤◌, refl, sym, subst}
use Rattle.std.proofs.lemmas.Result.{IfOk-weaker}
use Rattle.ground_program.specs.Ground.{Ground}
use Rattle.ground_program.specs.Tangle.{AreCyclicComponents, pairs, tangle}
use Rattle.tangle_laws.proofs.TangleLaws.{pairs-within_tangle}
use Rattle.normalize.specs.Kept.{SameRest}
use Rattle.normalize.specs.private.Made.{made_of}
use Rattle.normalize.specs.private.Stage.{Stage}
use Rattle.normalize.specs.private.Standing.{StandsFor}
use Rattle.normalize.proofs.MadeLaws.{normal-rules, made-size, made-same, atoms-within}
use Rattle.normalize.proofs.WholeLaws.{Turns-faithful, Turns-faithful-itself}
use Rattle.normalize.proofs.normalization.normal_within_room.Goals as goal

same-rest : (P : Ground) (t : Stage) → SameRest P (made_of P t)
same-rest P t = record { required = refl; edges = refl; levels = refl; shows = refl }

pub returns : goal.returns
returns c =
    let P : Ground = c.args.program.now in
    let t : Stage = c.in_ok-work.work in
    let facts = c.finish.ensures.facts in
    let is = c.finish.ensures.stage in
    let by = c.in_ok-work.ensures in
    IfOk-weaker c.finish.result (λ made. made ≡ made_of P t) (StandsFor P)
    (λ made e. subst (StandsFor P) (sym e) (record {
      normal = normal-rules P t facts c.requires is by.turns by.spends;
      faithful = Turns-faithful-itself P (made_of P t) t facts (same-rest P t) refl by.turns;
      with_more = Turns-faithful P (made_of P t) t facts (same-rest P t) refl by.turns;
      atoms = atoms-within P t facts c.requires is by.turns by.spends;
      rest = same-rest P t;
      small = made-size P t facts c.requires is by.turns by.spends;
      same = λ n. made-same P t facts c.requires is by.turns by.spends (by.same n);
      pairs_within = λ own parts h k. subst (λ rules. pairs rules own ≤ tangle P.rules parts)
          (sym by.pieces.3)
          (pairs-within_tangle P.rules by.pieces.0 own parts by.pieces.1 by.pieces.2
          (subst (λ rules. AreCyclicComponents rules own) by.pieces.3 h) k);
    }))
    c.finish.ensures.is
