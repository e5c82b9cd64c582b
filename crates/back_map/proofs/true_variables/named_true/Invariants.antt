use Rattle.back_map.proofs.TrueVariables.{SoFar}
use Rattle.back_map.proofs.true_variables.named_true.Given as goal

abbrev pub invariant-loop-v : goal.invariant-loop-v
invariant-loop-v l = SoFar l.vars l.values l.v l.variables.items
