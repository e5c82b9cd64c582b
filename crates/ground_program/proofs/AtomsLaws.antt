-- The atoms of a program are few, and a rising list of atoms is one of them.
use Rattle.std.proofs.Common.{◌+◌, ℕ, ◌<◌, ◌≤◌, ◌^◌, List, length, arith}
use Rattle.std.specs.List.{AllByRecursion}
use Rattle.asp_base.proofs.Each.{each-weaker}
use Rattle.rising_numbers.specs.Rising.{rising}
use Rattle.rising_numbers.proofs.PlaceLaws.{length-rises}
use Rattle.rising_numbers.proofs.RisingLaws.{RisesFrom-rising, each-rising}
use Rattle.ground_program.specs.Facts.{IsAtom}
use Rattle.ground_program.specs.private.AreAtoms.{AreAtoms}

pub atoms-few : (atoms : List ℕ) → AreAtoms atoms → length atoms ≤ 2 ^ 30
atoms-few atoms are =
    let k : 0 + length atoms ≤ 2 ^ 30 = length-rises 0 (2 ^ 30) atoms (omega arith) are.rise are.fit in
    omega arith

pub rising-atoms : (named : List ℕ) → AllByRecursion IsAtom named → AreAtoms (rising named)
rising-atoms named are = record {
  rise = RisesFrom-rising 0 named (each-weaker IsAtom (λ a. 0 < a) (λ a k. k.0) named are);
  fit = each-rising (λ a. a ≤ 2 ^ 30) named (each-weaker IsAtom (λ a. a ≤ 2 ^ 30) (λ a k. k.1) named are);
}
