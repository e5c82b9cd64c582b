-- What stood in front stays there where memory ran out.
use Rattle.asp_scan.proofs.Appends.{front_kept, on_err}
use Rattle.dimacs_format.proofs.wcnf_writer.push_soft.Goals as goal

pub returns-in_err-push_weighted-clause-err : goal.returns-in_err-push_weighted-clause-err
returns-in_err-push_weighted-clause-err c =
    on_err _ _ (front_kept c.args.out.now.items c.loop-clause.out.items _ c.push_weighted.new.out.items c.loop-clause.invariant c.in_err-push_weighted.ensures.err)
