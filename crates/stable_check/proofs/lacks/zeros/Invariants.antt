use Rattle.std.proofs.Common.{◌≡◌, ◌++◌, drop}
use Rattle.stable_check.specs.private.Lack.{zeros}
use Rattle.stable_check.proofs.lacks.zeros.Given as goal

abbrev pub invariant-loop-i : goal.invariant-loop-i
invariant-loop-i l = l.places.items ++ zeros l.i (drop l.i l.numbers) ≡ zeros 0 l.numbers
