use Rattle.std.proofs.Common.{◌≡◌, ap, subst, Ok}
use Rattle.back_map.specs.Read.{Answers, answer_of}
use Rattle.clause_store.specs.Assigned.{true_in}
use Rattle.asp_tools.proofs.Tables.{answer-judged}
use Rattle.asp_tools.proofs.back.reply_over.Goals as goal

pub returns-in-Ok-Values : goal.returns-in-Ok-Values
returns-in-Ok-Values c =
    let x = c.in-Ok-Values.ensures.answer.0 in
    let said = subst (λ a. Answers x c.formula.inside.vars a) c.in-Ok-Values.field-0-is c.in-Ok-Values.ensures.answer.1.1 in
    let read = subst (λ n. answer_of c.args.answer n ≡ Ok x) (ap (λ F. F.vars) c.formula.view_is) c.in-Ok-Values.ensures.answer.1.0 in
    answer-judged c.args.formula.now c.args.map.now (true_in c.in-Ok-Values.values) _ x read said.0 said.1.1 c.judgement.result c.judgement.ensures
