use Rattle.std.proofs.Common.{◌≡◌, sym, drop, arith}
use Rattle.std.proofs.lemmas.Bool.{lt-leb}
use Rattle.std.proofs.lemmas.List.{at_drop_all}
use Rattle.ground_program.specs.Radix.{cut_weights, total}
use Rattle.ground_program.proofs.rooms.total_reaches.Goals as goal

pub returns : goal.returns
returns c =
    let none : total (cut_weights c.args.bound (drop c.loop-item.item-index c.args.items.now)) ≡ 0 =
    at_drop_all (λ items. total (cut_weights c.args.bound items)) c.args.items.now c.loop-item.item-index
    (omega (arith, c.loop-item-test.false)) in
    sym (lt-leb c.args.bound (total (cut_weights c.args.bound c.args.items.now))
    (omega (arith, none, c.loop-item.invariant.0, c.loop-item.invariant.1)))
