use Rattle.std.proofs.Common.{◌≡◌, drop}
use Rattle.asp_scan.proofs.CappedDigits.{capped}
use Rattle.asp_scan.proofs.numeral.digits.Given as goal

abbrev pub invariant-loop-i : goal.invariant-loop-i
invariant-loop-i l = capped 0 l.text ≡ capped l.value (drop l.i l.text)
