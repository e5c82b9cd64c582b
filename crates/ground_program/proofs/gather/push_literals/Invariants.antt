use Rattle.std.proofs.Common.{◌≡◌, ◌++◌, drop}
use Rattle.ground_program.specs.Occurrences.{atoms_of_literals}
use Rattle.ground_program.proofs.gather.push_literals.Given as goal

abbrev pub invariant-loop-lit : goal.invariant-loop-lit
invariant-loop-lit l = l.out.items ++ atoms_of_literals (drop l.lit-index l.lits) ≡ l.initial.out.items ++ atoms_of_literals l.lits
