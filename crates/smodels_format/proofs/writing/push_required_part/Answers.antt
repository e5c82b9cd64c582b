-- The text that was there stays where memory runs out.
use Rattle.asp_scan.proofs.Appends.{front_kept, on_err}
use Rattle.smodels_format.proofs.writing.push_required_part.Goals as goal

pub returns-in_err-push_refuted-clause-err : goal.returns-in_err-push_refuted-clause-err
returns-in_err-push_refuted-clause-err c =
    on_err _ _
    (front_kept c.args.out.now.items _ _ _ c.in_ok-extend_from_slice.ensures.items
    (front_kept _ _ _ _ c.in_ok-push_required.ensures.ok
    (front_kept _ _ _ _ c.in_ok-extend_from_slice-2.ensures.items (front_kept _ _ _ _ c.in_ok-push_required-2.ensures.ok c.in_err-push_refuted.ensures.err))))
