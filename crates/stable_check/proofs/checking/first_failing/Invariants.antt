use Rattle.std.proofs.Common.{◌≡◌, ◌+◌, ℕ, not, drop}
use Rattle.std.specs.Option.{option_map}
use Rattle.asp_base.specs.Literal.{literal_holds}
use Rattle.asp_base.specs.Sets.{members}
use Rattle.stable_check.specs.Verdicts.{first_where}
use Rattle.stable_check.proofs.checking.first_failing.Given as goal

abbrev pub invariant-loop-i : goal.invariant-loop-i
invariant-loop-i l =
    option_map (λ (n : ℕ). l.i + n) (first_where (λ k. not (literal_holds k (members l.set) (members l.set))) (drop l.i l.lits))
    ≡ first_where (λ k. not (literal_holds k (members l.set) (members l.set))) l.lits
