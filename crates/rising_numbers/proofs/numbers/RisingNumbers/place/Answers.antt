-- The place of what is found.
use Rattle.rising_numbers.proofs.IndexLaws.{stands-place}
use Rattle.rising_numbers.proofs.numbers.RisingNumbers.place.Goals as goal

pub returns-in-Some-clause-place : goal.returns-in-Some-clause-place
returns-in-Some-clause-place c =
    rw (← c.self.view_is) (stands-place c.self.inside.items.items c.args.number c.in-Some.index c.self.invariant.0 (rw c.as_slice.ensures.value at c.in-Some.ensures))
