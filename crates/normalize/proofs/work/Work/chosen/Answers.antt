-- By a new atom for the body, or by the body itself where it or the choice is short.
use Rattle.std.proofs.Common.{◌+◌, ◌*◌, ◌<◌, ◌≤◌, ◌⊎◌, inl, inr, ◌∷◌, [], length, arith}
use Rattle.std.proofs.lemmas.Result.{IfOk-weaker}
use Rattle.ground_program.specs.Dependencies.{positives_of_literals}
use Rattle.ground_program.specs.declared.program.Head.TheVariants.{Choice}
use Rattle.ground_program.specs.declared.program.Body.TheVariants.{All}
use Rattle.normalize.proofs.AddedLaws.{Adds-behind}
use Rattle.normalize.proofs.GoingOn.{choices-few, spends-weaker}
use Rattle.normalize.proofs.StageLaws.{Turns-behind}
use Rattle.normalize.proofs.work.Work.chosen.Goals.{else-atoms-ge2-via-then-atoms-ge2+else-lits-ge2, else-atoms-ge2-via-else-atoms-ge2}
use Rattle.normalize.proofs.work.Work.chosen.Goals as goal

pub returns-then-lits-ge2-clause-turns : goal.returns-then-lits-ge2-clause-turns
returns-then-lits-ge2-clause-turns c =
    IfOk-weaker c.choices.result _ _
    (λ work p. Turns-behind c.args.self c.in_ok-work.work work (Choice c.args.atoms.now)
    (All c.args.lits.now) (c.in_ok-work.lit ∷ []) c.in_ok-work.ensures.answers p)
    c.choices.ensures.turns

pub choices-requires-2-clause-room : goal.choices-requires-2-clause-room
choices-requires-2-clause-room c =
    let few : (length c.args.atoms.now < 2) ⊎ (length c.args.lits.now < 2) =
    elim c.else-atoms-ge2.branch [
      | else-atoms-ge2-via-then-atoms-ge2+else-lits-ge2 w ↦ inr (omega arith)
      | else-atoms-ge2-via-else-atoms-ge2 w ↦ inl (omega arith)
    ] in
    let l : length c.args.atoms.now * (5 + length c.args.lits.now) ≤ length c.args.lits.now + 2 +
    6 * length c.args.atoms.now = choices-few (length c.args.atoms.now) (length c.args.lits.now)
    few in
    omega arith

pub returns-clause-spends : goal.returns-clause-spends
returns-clause-spends c =
    let few : (length c.args.atoms.now < 2) ⊎ (length c.args.lits.now < 2) =
    elim c.else-atoms-ge2.branch [
      | else-atoms-ge2-via-then-atoms-ge2+else-lits-ge2 w ↦ inr (omega arith)
      | else-atoms-ge2-via-else-atoms-ge2 w ↦ inl (omega arith)
    ] in
    IfOk-weaker c.choices-2.result _ _
    (λ work p. spends-weaker _ _ c.args.self work
    (choices-few (length c.args.atoms.now) (length c.args.lits.now) few) p)
    c.choices-2.ensures.spends

pub returns-then-lits-ge2-clause-adds : goal.returns-then-lits-ge2-clause-adds
returns-then-lits-ge2-clause-adds c =
    IfOk-weaker c.choices.result _ _
    (λ work p. Adds-behind c.args.atoms.now (positives_of_literals c.args.lits.now)
    (c.in_ok-work.lit ∷ []) c.args.self c.in_ok-work.work work
    c.in_ok-work.ensures.answers.turns.atoms c.known.ensures c.in_ok-work.ensures.adds p)
    c.choices.ensures.adds
