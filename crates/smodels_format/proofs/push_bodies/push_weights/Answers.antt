-- The text that was there stays where memory runs out.
use Rattle.asp_scan.proofs.Appends.{front_kept, on_err}
use Rattle.smodels_format.proofs.push_bodies.push_weights.Goals as goal

pub returns-in_err-push_weight-clause-err : goal.returns-in_err-push_weight-clause-err
returns-in_err-push_weight-clause-err c =
    on_err _ _ (front_kept c.args.out.now.items c.loop-item.out.items _ c.push_weight.new.out.items c.loop-item.invariant c.in_err-push_weight.ensures.err)
