use Rattle.asp_scan.proofs.Appends.{front_kept, on_err}
use Rattle.symbol_map.proofs.text.push_places.Goals as goal

pub returns-in_err-push_place-clause-err : goal.returns-in_err-push_place-clause-err
returns-in_err-push_place-clause-err c =
    on_err _ _ (front_kept c.args.out.now.items c.loop-place.out.items _ c.push_place.new.out.items c.loop-place.invariant c.in_err-push_place.ensures.err)
