-- Each comparison is of numbers of as many digits, over variables that are there.
use Rattle.std.proofs.Common.{◌∙◌, sym, ◌+◌, ◌^◌, arith}
use Rattle.level_ranking.proofs.Pushed.{paired-here, paired-next, paired-room, less-as}
use Rattle.level_ranking.proofs.comparisons.push_not_below.Goals as goal

pub less-requires-clause-some : goal.less-requires-clause-some
less-requires-clause-some c =
    (paired-here c.args.first c.args.x.now c.args.digits.now c.args.places.now c.args.store.now c.loop-place.store c.args.out.now.items c.loop-place.out.items c.loop-place.place-index c.index-digits-place.result
    c.requires.places c.loop-place-test.true c.index-digits-place.is c.loop-place.invariant (c.in_order.result.0.now, c.in_order.result.1.now) c.in_order.ensures).some

pub less-requires-clause-same : goal.less-requires-clause-same
less-requires-clause-same c =
    let pair = paired-here c.args.first c.args.x.now c.args.digits.now c.args.places.now c.args.store.now c.loop-place.store c.args.out.now.items c.loop-place.out.items c.loop-place.place-index c.index-digits-place.result
    c.requires.places c.loop-place-test.true c.index-digits-place.is c.loop-place.invariant (c.in_order.result.0.now, c.in_order.result.1.now) c.in_order.ensures in
    pair.first ∙ sym pair.second

pub less-requires-clause-over_x : goal.less-requires-clause-over_x
less-requires-clause-over_x c =
    (paired-here c.args.first c.args.x.now c.args.digits.now c.args.places.now c.args.store.now c.loop-place.store c.args.out.now.items c.loop-place.out.items c.loop-place.place-index c.index-digits-place.result
    c.requires.places c.loop-place-test.true c.index-digits-place.is c.loop-place.invariant (c.in_order.result.0.now, c.in_order.result.1.now) c.in_order.ensures).over_first

pub less-requires-clause-over_y : goal.less-requires-clause-over_y
less-requires-clause-over_y c =
    (paired-here c.args.first c.args.x.now c.args.digits.now c.args.places.now c.args.store.now c.loop-place.store c.args.out.now.items c.loop-place.out.items c.loop-place.place-index c.index-digits-place.result
    c.requires.places c.loop-place-test.true c.index-digits-place.is c.loop-place.invariant (c.in_order.result.0.now, c.in_order.result.1.now) c.in_order.ensures).over_second

pub less-requires-clause-room : goal.less-requires-clause-room
less-requires-clause-room c =
    paired-room c.args.first c.args.x.now c.args.digits.now c.args.places.now c.args.store.now c.loop-place.store c.args.out.now.items c.loop-place.out.items c.loop-place.place-index c.index-digits-place.result
    c.requires.places c.loop-place-test.true c.index-digits-place.is c.loop-place.invariant (c.in_order.result.0.now, c.in_order.result.1.now) c.in_order.ensures (2 ^ 31) c.requires.room

pub loop-place-preserved : goal.loop-place-preserved
loop-place-preserved c =
    rw (c.in_ok-push.ensures.items, c.negate.ensures, c.in_ok-below.ensures.store, c.in_ok-below.ensures.literal)
    (paired-next c.args.first c.args.x.now c.args.digits.now c.args.places.now c.args.store.now c.loop-place.store c.args.out.now.items c.loop-place.out.items c.loop-place.place-index c.index-digits-place.result
    c.requires.places c.loop-place-test.true c.index-digits-place.is c.loop-place.invariant (c.in_order.result.0.now, c.in_order.result.1.now) c.in_order.ensures (c.loop-place.place-index + 1) (omega arith)
    (less-as c.in_order.result.0.now c.in_order.result.1.now c.loop-place.store c.less.new.store c.in_ok-below.below c.in_ok-below.ensures.store c.in_ok-below.ensures.literal c.in_ok-below.ensures.is))
