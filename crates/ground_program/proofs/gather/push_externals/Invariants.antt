use Rattle.std.proofs.Common.{◌≡◌, ◌++◌, drop, map}
use Rattle.ground_program.proofs.gather.push_externals.Given as goal

abbrev pub invariant-loop-set : goal.invariant-loop-set
invariant-loop-set l = l.out.items ++ map (λ set. set.0) (drop l.set-index l.externals) ≡ l.initial.out.items ++ map (λ set. set.0) l.externals
