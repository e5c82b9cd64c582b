use Rattle.asp_scan.proofs.Appends.{front_kept, on_err}
use Rattle.symbol_map.proofs.text.push_levels.Goals as goal

pub returns-in_err-push_level-clause-err : goal.returns-in_err-push_level-clause-err
returns-in_err-push_level-clause-err c =
    on_err _ _ (front_kept c.args.out.now.items c.loop-level.out.items _ c.push_level.new.out.items c.loop-level.invariant c.in_err-push_level.ensures.err)
