-- A rule over a sum, by cases on its answer.
use Rattle.std.proofs.Common.{◌∷◌, [], subst, sym, arith}
use Rattle.std.proofs.lemmas.Bool.{true≢false}
use Rattle.std.proofs.lemmas.Result.{IfOk-weaker}
use Rattle.ground_program.specs.Dependencies.{positives_of_body}
use Rattle.ground_program.specs.Occurrences.{atoms_of_head}
use Rattle.normalize.specs.private.Stage.{Answers, SumAnswers, atoms_of, reach_lits}
use Rattle.normalize.specs.private.Added.{AddsAnswer}
use Rattle.normalize.proofs.AddedLaws.{Adds-behind, Adds-wider}
use Rattle.normalize.proofs.GoingOn.{head-in, head-stays, sum-room, over-room, over-spends}
use Rattle.normalize.proofs.StageLaws.{Turns-behind}
use Rattle.normalize.proofs.work.Work.summed.Goals as goal
use Rattle.normalize.proofs.work.Work.summed.Goals.{In-Always, In-By}

pub sum-requires-clause-room : goal.sum-requires-clause-room
sum-requires-clause-room c = sum-room c.args.rule.now c.requires.sum c.args.self c.requires.room

-- ---- the sum is always reached

always : (c : In-Always) → Answers c.args.rule.now.body [] c.args.self c.in_ok-work.work
always c =
    subst (SumAnswers c.args.rule.now.body c.args.self c.in_ok-work.work) c.in-Always.is
    c.in_ok-work.ensures.answers

pub over-requires-clause-room : goal.over-requires-clause-room
over-requires-clause-room c =
    let a = always (goal.at.over-requires-clause-room c).In-Always in
    over-room c.args.rule.now c.requires.sum 0 c.args.self c.in_ok-work.work (omega arith)
    a.turns.atoms c.in_ok-work.ensures.spends c.requires.room

pub over-requires-clause-head : goal.over-requires-clause-head
over-requires-clause-head c =
    let a = always (goal.at.over-requires-clause-head c).In-Always in
    head-stays [] c.args.self c.in_ok-work.work a.turns c.args.rule.now.head
    (head-in (atoms_of c.args.self) c.args.rule.now.head c.requires.fits.0)

pub returns-in-Always-clause-turns : goal.returns-in-Always-clause-turns
returns-in-Always-clause-turns c =
    let a = always (goal.at.returns-in-Always-clause-turns c).In-Always in
    IfOk-weaker c.over.result _ _
    (λ work p. Turns-behind c.args.self c.in_ok-work.work work c.args.rule.now.head
    c.args.rule.now.body [] a p)
    c.over.ensures.turns

pub returns-in-Always-clause-spends : goal.returns-in-Always-clause-spends
returns-in-Always-clause-spends c =
    IfOk-weaker c.over.result _ _
    (λ work p. over-spends c.args.rule.now c.requires.sum 0 c.args.self c.in_ok-work.work work
    (omega arith) c.in_ok-work.ensures.spends p)
    c.over.ensures.spends

pub returns-in-Always-clause-adds : goal.returns-in-Always-clause-adds
returns-in-Always-clause-adds c =
    let a = always (goal.at.returns-in-Always-clause-adds c).In-Always in
    IfOk-weaker c.over.result _ _
    (λ work p. Adds-behind (atoms_of_head c.args.rule.now.head)
    (positives_of_body c.args.rule.now.body) [] c.args.self c.in_ok-work.work work
    a.turns.atoms c.known.ensures
    (subst (λ reach. AddsAnswer (positives_of_body c.args.rule.now.body) (reach_lits reach)
    c.args.self c.in_ok-work.work) c.in-Always.is c.in_ok-work.ensures.adds) p)
    c.over.ensures.adds

-- ---- it is never reached

pub returns-in-Never-clause-turns : goal.returns-in-Never-clause-turns
returns-in-Never-clause-turns c =
    (subst (SumAnswers c.args.rule.now.body c.args.self c.in_ok-work.work) c.in-Never.is
    c.in_ok-work.ensures.answers).1 c.args.rule.now.head

pub returns-in-Never-clause-adds : goal.returns-in-Never-clause-adds
returns-in-Never-clause-adds c =
    Adds-wider [] (atoms_of_head c.args.rule.now.head) (positives_of_body c.args.rule.now.body)
    c.args.self c.in_ok-work.work (λ a m. absurd (true≢false (sym m)))
    c.in_ok-work.ensures.adds.adds

-- ---- a literal says whether it is reached

by : (c : In-By)
    → Answers c.args.rule.now.body (c.in-By.lit ∷ []) c.args.self c.in_ok-work.work
by c =
    subst (SumAnswers c.args.rule.now.body c.args.self c.in_ok-work.work) c.in-By.is
    c.in_ok-work.ensures.answers

pub over-requires-in-By-clause-room : goal.over-requires-in-By-clause-room
over-requires-in-By-clause-room c =
    let a = by (goal.at.over-requires-in-By-clause-room c).In-By in
    over-room c.args.rule.now c.requires.sum 1 c.args.self c.in_ok-work.work (omega arith)
    a.turns.atoms c.in_ok-work.ensures.spends c.requires.room

pub over-requires-in-By-clause-head : goal.over-requires-in-By-clause-head
over-requires-in-By-clause-head c =
    let a = by (goal.at.over-requires-in-By-clause-head c).In-By in
    head-stays [] c.args.self c.in_ok-work.work a.turns c.args.rule.now.head
    (head-in (atoms_of c.args.self) c.args.rule.now.head c.requires.fits.0)

pub returns-in-By-clause-turns : goal.returns-in-By-clause-turns
returns-in-By-clause-turns c =
    let a = by (goal.at.returns-in-By-clause-turns c).In-By in
    IfOk-weaker c.over-in-By.result _ _
    (λ work p. Turns-behind c.args.self c.in_ok-work.work work c.args.rule.now.head
    c.args.rule.now.body (c.in-By.lit ∷ []) a p)
    c.over-in-By.ensures.turns

pub returns-in-By-clause-spends : goal.returns-in-By-clause-spends
returns-in-By-clause-spends c =
    IfOk-weaker c.over-in-By.result _ _
    (λ work p. over-spends c.args.rule.now c.requires.sum 1 c.args.self c.in_ok-work.work work
    (omega arith) c.in_ok-work.ensures.spends p)
    c.over-in-By.ensures.spends

pub returns-in-By-clause-adds : goal.returns-in-By-clause-adds
returns-in-By-clause-adds c =
    let a = by (goal.at.returns-in-By-clause-adds c).In-By in
    IfOk-weaker c.over-in-By.result _ _
    (λ work p. Adds-behind (atoms_of_head c.args.rule.now.head)
    (positives_of_body c.args.rule.now.body) (c.in-By.lit ∷ []) c.args.self c.in_ok-work.work
    work a.turns.atoms c.known.ensures
    (subst (λ reach. AddsAnswer (positives_of_body c.args.rule.now.body) (reach_lits reach)
    c.args.self c.in_ok-work.work) c.in-By.is c.in_ok-work.ensures.adds) p)
    c.over-in-By.ensures.adds
