use Rattle.asp_scan.proofs.Appends.{front_kept, on_err}
use Rattle.symbol_map.proofs.text.push_shows.Goals as goal

pub returns-in_err-push_show-clause-err : goal.returns-in_err-push_show-clause-err
returns-in_err-push_show-clause-err c =
    on_err _ _ (front_kept c.args.out.now.items c.loop-show.out.items _ c.push_show.new.out.items c.loop-show.invariant c.in_err-push_show.ensures.err)
