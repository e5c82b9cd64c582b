use Rattle.std.proofs.Common.{◌≡◌, ◌-◌, drop}
use Rattle.asp_base.specs.Sets.{members}
use Rattle.stable_check.specs.private.Lack.{natural, naturals, total}
use Rattle.stable_check.proofs.truth.lack.Given as goal

abbrev pub invariant-loop-item : goal.invariant-loop-item
invariant-loop-item l =
    l.lacking - total (naturals (drop l.item-index l.items)) (members l.set) (members l.set) ≡ natural l.bound - total (naturals l.items) (members l.set) (members l.set)
