use Rattle.std.proofs.Common.{◌≡◌, ◌++◌, drop}
use Rattle.ground_program.specs.private.Externals.{rules_of_last}
use Rattle.ground_program.proofs.externals.push_last_settings.Given as goal

abbrev pub invariant-loop-i : goal.invariant-loop-i
invariant-loop-i l = l.rules ++ rules_of_last l.heads (drop l.i l.sorted) ≡ l.initial.rules ++ rules_of_last l.heads l.sorted
