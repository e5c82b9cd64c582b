use Rattle.std.proofs.Common.{sym, subst}
use Rattle.std.specs.List.Sorted.{IsStrictlyIncreasing}
use Rattle.rising_numbers.proofs.RisingLaws.{IsStrictlyIncreasing-rising}
use Rattle.rising_numbers.proofs.numbers.RisingNumbers.of_vec.Goals as goal

pub of-requires : goal.of-requires
of-requires c = rw c.as_slice.ensures.value (subst IsStrictlyIncreasing (sym c.in_ok-items.ensures) (IsStrictlyIncreasing-rising c.args.numbers.items))

pub invariant_of-result : goal.invariant_of-result
invariant_of-result c = (subst IsStrictlyIncreasing (sym c.in_ok-items.ensures) (IsStrictlyIncreasing-rising c.args.numbers.items), rw c.as_slice.ensures.value at c.in_ok-index.ensures)
