use Rattle.std.proofs.Common.{ℕ, ◌≤◌, ◌<◌, ◌*◌, ◌^◌, arith, rules}
use Rattle.std.proofs.lemmas.Nat.{mul-le}
use Rattle.ground_program.specs.Digits.{digits}
use Rattle.ground_program.proofs.DigitLaws.{digits-below}
use Rattle.weight_rules.proofs.counts.takes_grid.Goals as goal

product : (n d : ℕ) → n ≤ 2 ^ 24 → d ≤ digits n → n * (d * d) ≤ 2 ^ 24 * (25 * 25)
product n d l e =
    let b : digits n ≤ 25 = digits-below 25 n (omega arith) in
    let few : d ≤ 25 = omega arith in
    mul-le n (d * d) (2 ^ 24) (25 * 25) l (mul-le d d 25 25 few few)

pub overflow_mul-result-4 : goal.overflow_mul-result-4
overflow_mul-result-4 c =
    let l : c.args.n * (c.digits-d.result * c.digits-d.result) ≤ 2 ^ 24 * (25 * 25) =
    product c.args.n c.digits-d.result c.requires.short (omega (arith, c.digits-d.ensures.is)) in
    let fits : c.args.n * (c.digits-d.result * c.digits-d.result) < 2 ^ 64 = omega arith in
    search (rules, fits)

pub overflow_mul-result-5 : goal.overflow_mul-result-5
overflow_mul-result-5 c =
    let l : c.args.n * (c.digits-d.result * c.digits-d.result) ≤ 2 ^ 24 * (25 * 25) =
    product c.args.n c.digits-d.result c.requires.short (omega (arith, c.digits-d.ensures.is)) in
    let fits : 9 * (c.args.n * (c.digits-d.result * c.digits-d.result)) < 2 ^ 64 = omega arith in
    search (rules, fits)
