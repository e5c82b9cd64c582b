-- So many digits are there.
use Rattle.std.proofs.Common.{◌≡◌}
use Rattle.digit_gates.specs.DigitGates.{with_variables, variables_from}
use Rattle.digit_gates.proofs.made.digits.Given as goal

abbrev pub invariant-loop : goal.invariant-loop
invariant-loop l = (l.store ≡ with_variables l.counter l.fn.store) × (l.made ≡ variables_from l.counter l.fn.store.vars)
