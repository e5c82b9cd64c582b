use Rattle.asp_scan.proofs.Appends.{front_kept, on_err}
use Rattle.statement_fields.proofs.push.push_each_item.Goals as goal

pub returns-in_err-push_item-clause-err : goal.returns-in_err-push_item-clause-err
returns-in_err-push_item-clause-err c =
    on_err _ _ (front_kept c.args.out.now.items c.loop-item.out.items _ c.push_item.new.out.items c.loop-item.invariant c.in_err-push_item.ensures.err)
