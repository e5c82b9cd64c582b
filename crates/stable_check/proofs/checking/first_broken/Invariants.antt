use Rattle.std.proofs.Common.{◌≡◌, ◌+◌, ℕ, drop}
use Rattle.std.specs.Option.{option_map}
use Rattle.asp_base.specs.Sets.{members}
use Rattle.ground_program.specs.Broken.{breaks}
use Rattle.stable_check.specs.Verdicts.{first_where}
use Rattle.stable_check.proofs.checking.first_broken.Given as goal

abbrev pub invariant-loop-i : goal.invariant-loop-i
invariant-loop-i l =
    option_map (λ (n : ℕ). l.i + n) (first_where (λ rule. breaks rule (members l.set)) (drop l.i l.rules)) ≡ first_where (λ rule. breaks rule (members l.set)) l.rules
