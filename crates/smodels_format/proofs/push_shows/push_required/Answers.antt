-- The text that was there stays where memory runs out.
use Rattle.asp_scan.proofs.Appends.{front_kept, on_err}
use Rattle.smodels_format.proofs.push_shows.push_required.Goals as goal

pub returns-in_err-push_required_one-clause-err : goal.returns-in_err-push_required_one-clause-err
returns-in_err-push_required_one-clause-err c =
    on_err _ _ (front_kept c.args.out.now.items c.loop-lit.out.items _ c.push_required_one.new.out.items c.loop-lit.invariant c.in_err-push_required_one.ensures.err)
