-- A place fits 32 bits, since there are at most 2^30 atoms.
use Rattle.std.proofs.Common.{◌≤◌, ◌^◌, length, arith, rules}
use Rattle.ground_program.proofs.AtomsLaws.{atoms-few}
use Rattle.ground_program.proofs.atoms.Atoms.place.Goals as goal

pub overflow_cast-result : goal.overflow_cast-result
overflow_cast-result c =
    let few : length c.self.inside.numbers ≤ 2 ^ 30 = atoms-few _ c.self.invariant in
    let within : c.in-Some.place ≤ length c.self.inside.numbers = search rules in
    omega arith

pub returns-in-Some-clause-few : goal.returns-in-Some-clause-few
returns-in-Some-clause-few c = rw (← c.self.view_is) (atoms-few _ c.self.invariant)

pub returns-in-None-clause-few : goal.returns-in-None-clause-few
returns-in-None-clause-few c = rw (← c.self.view_is) (atoms-few _ c.self.invariant)
