use Rattle.asp_scan.proofs.Appends.{front_kept, on_err}
use Rattle.statement_fields.proofs.push.push_each_atom.Goals as goal

pub returns-in_err-push_field-clause-err : goal.returns-in_err-push_field-clause-err
returns-in_err-push_field-clause-err c =
    on_err _ _ (front_kept c.args.out.now.items c.loop-atom.out.items _ c.push_field.new.out.items c.loop-atom.invariant c.in_err-push_field.ensures.err)
