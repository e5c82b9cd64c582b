use Rattle.std.proofs.Common.{arith}
use Rattle.std.proofs.lemmas.Grind.{common_steps}
use Rattle.aspif_format.proofs.statement.by_number.Goals as goal

pub returns-in_err-projection-in-3-clause-err : goal.returns-in_err-projection-in-3-clause-err
returns-in_err-projection-in-3-clause-err c =
    let e = c.in_err-projection-in-3.ensures.err c.args.builder.now in
    grind (arith, common_steps)

pub returns-in_err-heuristic-in-7-clause-err : goal.returns-in_err-heuristic-in-7-clause-err
returns-in_err-heuristic-in-7-clause-err c =
    let e = c.in_err-heuristic-in-7.ensures.err c.args.builder.now in
    grind (arith, common_steps)
