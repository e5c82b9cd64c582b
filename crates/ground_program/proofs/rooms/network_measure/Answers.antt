use Rattle.std.proofs.Common.{◌≤◌, ◌<◌, ◌*◌, ◌^◌, ℕ, arith, rules}
use Rattle.std.proofs.lemmas.Nat.{mul-le}
use Rattle.ground_program.specs.Digits.{digits}
use Rattle.ground_program.proofs.DigitLaws.{digits-below}
use Rattle.ground_program.proofs.rooms.network_measure.Goals as goal

product : (n d : ℕ) → n ≤ 2 ^ 29 → d ≤ digits n → n * (d * d) ≤ 2 ^ 29 * (30 * 30)
product n d l e =
    let b : digits n ≤ 30 = digits-below 30 n (omega arith) in
    let few : d ≤ 30 = omega arith in
    mul-le n (d * d) (2 ^ 29) (30 * 30) l (mul-le d d 30 30 few few)

pub overflow_mul-result-2 : goal.overflow_mul-result-2
overflow_mul-result-2 c =
    let l : c.args.n * (c.digits-d.result * c.digits-d.result) ≤ 2 ^ 29 * (30 * 30) =
    product c.args.n c.digits-d.result c.requires (omega (arith, c.digits-d.ensures.is)) in
    let fits : c.args.n * (c.digits-d.result * c.digits-d.result) < 2 ^ 64 = omega arith in
    search (rules, fits)

pub overflow_mul-result-3 : goal.overflow_mul-result-3
overflow_mul-result-3 c =
    let l : c.args.n * (c.digits-d.result * c.digits-d.result) ≤ 2 ^ 29 * (30 * 30) =
    product c.args.n c.digits-d.result c.requires (omega (arith, c.digits-d.ensures.is)) in
    let fits : 9 * (c.args.n * (c.digits-d.result * c.digits-d.result)) < 2 ^ 64 = omega arith in
    search (rules, fits)

pub returns-clause-small : goal.returns-clause-small
returns-clause-small c =
    let l : c.args.n * (c.digits-d.result * c.digits-d.result) ≤ 2 ^ 29 * (30 * 30) =
    product c.args.n c.digits-d.result c.requires (omega (arith, c.digits-d.ensures.is)) in
    omega arith
