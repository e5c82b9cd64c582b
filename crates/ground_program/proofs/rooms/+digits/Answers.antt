use Rattle.std.proofs.Common.{◌≡◌, ◌∙◌, ap, sym, suc, ◌/◌, arith}
use Rattle.ground_program.specs.Digits.{digits}
use Rattle.ground_program.proofs.DigitLaws.{digits-zero, digits-step}
use Rattle.ground_program.proofs.rooms.+digits.Goals as goal

pub returns-then-n-eq0-clause-is : goal.returns-then-n-eq0-clause-is
returns-then-n-eq0-clause-is t c = sym (ap digits c.if-n-eq0.true ∙ digits-zero)

pub returns-clause-is : goal.returns-clause-is
returns-clause-is t c =
    let d : digits c.args.n ≡ suc (digits (c.args.n / 2)) =
    digits-step c.args.n (omega (arith, c.if-n-eq0.false)) in
    omega (arith, c.digits.ensures.is)
