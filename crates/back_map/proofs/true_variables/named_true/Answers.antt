use Rattle.std.proofs.Common.{rules, ◌≡◌, ◌<◌, ◌≤◌, true, false, sym, ◌++◌, ◌∷◌, []}
use Rattle.back_map.proofs.TrueVariables.{SoFar-push, SoFar-skip, value_in}
use Rattle.back_map.proofs.true_variables.named_true.Goals as goal
use Rattle.back_map.proofs.true_variables.named_true.Goals.{then-is_true+in_ok-push, else-is_true}

pub loop-v-preserved : goal.loop-v-preserved
loop-v-preserved c = elim c.if-is_true.branch [
  | then-is_true+in_ok-push w ↦
      let is : value_in c.args.values.now c.loop-v.v ≡ true = sym (w.if-is_true.ensures c.loop-v.v) in
      let items : c.if-is_true.variables.items ≡ c.loop-v.variables.items ++ (c.loop-v.v ∷ []) = search rules in
      let some : 0 < c.loop-v.v = search rules in
      let within : c.loop-v.v ≤ c.args.vars = search rules in
      rw items (SoFar-push c.args.vars c.args.values.now c.loop-v.v c.loop-v.variables.items some within is c.loop-v.invariant)
  | else-is_true w ↦
      let is : value_in c.args.values.now c.loop-v.v ≡ false = sym (w.if-is_true.ensures c.loop-v.v) in
      let items : c.if-is_true.variables.items ≡ c.loop-v.variables.items = search rules in
      rw items (SoFar-skip c.args.vars c.args.values.now c.loop-v.v c.loop-v.variables.items is c.loop-v.invariant)
]
