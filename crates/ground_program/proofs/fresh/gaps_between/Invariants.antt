use Rattle.std.proofs.Common.{◌≡◌, ◌≤◌, ◌^◌, ◌++◌, drop}
use Rattle.std.specs.List.{AllByRecursion}
use Rattle.ground_program.specs.private.Gaps.{gaps_of}
use Rattle.ground_program.proofs.fresh.gaps_between.Given as goal

abbrev pub invariant-loop-atom : goal.invariant-loop-atom
invariant-loop-atom l = record {
  same : l.gaps.items ++ gaps_of l.low (drop l.atom-index l.atoms) ≡ gaps_of 1 l.atoms;
  fit : AllByRecursion (λ a. a ≤ 2 ^ 30) (drop l.atom-index l.atoms);
}
