use Rattle.std.proofs.Common.{rules, Ok, ◌∙◌, sym, ap}
use Rattle.aspif_format.proofs.Shows.{show-fails, show-trails, show-is}
use Rattle.aspif_format.proofs.statement.show.Goals as goal

pub returns-in_err-condition-clause-err : goal.returns-in_err-condition-clause-err
returns-in_err-condition-clause-err c =
    let e = show-fails c.args.builder.now c.args.scan.now.left _ _ c.in_ok-name.ensures.ok _ c.in_err-condition.ensures.err in
    search rules

pub returns-in_err-ended-clause-err : goal.returns-in_err-ended-clause-err
returns-in_err-ended-clause-err c =
    let e = show-trails c.args.builder.now c.args.scan.now.left _ _ c.in_ok-name.ensures.ok _ _ c.in_ok-condition.ensures.ok c.in_err-ended.ensures.err.1 in
    search rules

pub returns-clause-ok : goal.returns-clause-ok
returns-clause-ok c =
    let e = show-is c.args.builder.now c.args.scan.now.left _ _ c.in_ok-name.ensures.ok _ _ c.in_ok-condition.ensures.ok c.in_ok-ended.ensures.ok in
    e ∙ ap Ok (sym c.in_ok-add_show.ensures.ok)
