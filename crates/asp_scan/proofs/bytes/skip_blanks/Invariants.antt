use Rattle.std.proofs.Common.{◌≡◌, drop}
use Rattle.asp_scan.specs.Tokens.{skip_blanks}
use Rattle.asp_scan.proofs.bytes.skip_blanks.Given as goal

abbrev pub invariant-loop-i : goal.invariant-loop-i
invariant-loop-i l = skip_blanks l.text ≡ skip_blanks (drop l.i l.text)
