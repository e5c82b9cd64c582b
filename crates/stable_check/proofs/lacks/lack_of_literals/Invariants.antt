use Rattle.std.proofs.Common.{◌≡◌, ◌-◌, drop, length}
use Rattle.asp_base.specs.Sets.{none}
use Rattle.stable_check.specs.private.Lack.{flag, one_each, total}
use Rattle.stable_check.proofs.lacks.lack_of_literals.Given as goal

abbrev pub invariant-loop-lit : goal.invariant-loop-lit
invariant-loop-lit l =
    l.lacking - total (one_each (drop l.lit-index l.lits)) none (flag l.atoms l.set) ≡ length l.lits - total (one_each l.lits) none (flag l.atoms l.set)
