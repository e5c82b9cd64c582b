use Rattle.std.proofs.Common.{◌≡◌, ◌++◌, not, drop}
use Rattle.std.specs.List.{filter}
use Rattle.stable_check.specs.private.Parts.{flagged}
use Rattle.stable_check.proofs.checking.not_flagged.Given as goal

abbrev pub invariant-loop-atom : goal.invariant-loop-atom
invariant-loop-atom l =
    l.rest.items ++ filter (λ a. not (flagged l.atoms l.flags a)) (drop l.atom-index l.members) ≡ filter (λ a. not (flagged l.atoms l.flags a)) l.members
