-- The negative literals and the positive ones behind them are the literals of the body.
use Rattle.std.proofs.Common.{rules}
use Rattle.smodels_format.proofs.Bodies.{literals-fails, positive-fails, literals-are}
use Rattle.smodels_format.proofs.body.literals.Goals as goal

pub returns-in_err-push_literals-clause-err : goal.returns-in_err-push_literals-clause-err
returns-in_err-push_literals-clause-err c =
    let e = literals-fails c.args.n.negative c.args.n.positive c.args.scan.now.left _ c.in_err-push_literals.ensures.err in
    search rules

pub returns-in_err-push_literals-2-clause-err : goal.returns-in_err-push_literals-2-clause-err
returns-in_err-push_literals-2-clause-err c =
    let e = positive-fails c.args.n.negative c.args.n.positive c.args.scan.now.left _ _ _ c.new-lits.ensures c.in_ok-push_literals.ensures.ok _ c.in_err-push_literals-2.ensures.err in
    search rules

pub returns-clause-ok : goal.returns-clause-ok
returns-clause-ok c =
    literals-are c.args.n.negative c.args.n.positive c.args.scan.now.left _ _ _ c.new-lits.ensures c.in_ok-push_literals.ensures.ok _ _ c.in_ok-push_literals-2.ensures.ok
