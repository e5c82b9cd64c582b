use Rattle.asp_scan.proofs.Appends.{front_kept, on_err, on_err-kept}
use Rattle.statement_fields.proofs.LinePieces.{two_appends, three_appends}
use Rattle.aspif_format.proofs.writing.push_parts.Goals as goal

pub returns-in_err-push_levels-clause-err : goal.returns-in_err-push_levels-clause-err
returns-in_err-push_levels-clause-err c =
    on_err _ _ (front_kept c.args.out.now.items c.push_rules.new.out.items _ c.push_levels.new.out.items
    (two_appends c.args.out.now.items _ _ _ _ c.in_ok-extend_from_slice.ensures.items c.in_ok-push_rules.ensures.ok) c.in_err-push_levels.ensures.err)

pub returns-clause-err : goal.returns-clause-err
returns-clause-err c =
    on_err-kept c.push_last_parts.result c.args.out.now.items c.push_levels.new.out.items _ c.push_last_parts.new.out.items
    (three_appends c.args.out.now.items _ _ _ _ _ _ c.in_ok-extend_from_slice.ensures.items c.in_ok-push_rules.ensures.ok c.in_ok-push_levels.ensures.ok) c.push_last_parts.ensures.err
