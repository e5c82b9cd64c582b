use Rattle.std.proofs.Common.{◌≡◌, ◌-◌, drop}
use Rattle.asp_base.specs.Sets.{none}
use Rattle.stable_check.specs.private.Lack.{flag, natural, naturals, total}
use Rattle.stable_check.proofs.lacks.lack_of_items.Given as goal

abbrev pub invariant-loop-item : goal.invariant-loop-item
invariant-loop-item l =
    l.lacking - total (naturals (drop l.item-index l.items)) none (flag l.atoms l.set) ≡ natural l.bound - total (naturals l.items) none (flag l.atoms l.set)
