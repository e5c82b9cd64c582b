-- Numbers that are no variables are not true.
use Rattle.std.proofs.Common.{rules, ◌<◌, ◌≤◌, ◌∙◌, ap, sym, length, arith}
use Rattle.clause_store.specs.Assigned.{true_in}
use Rattle.clause_store.proofs.Values.{true_in-get, true_in-above}
use Rattle.clause_store.proofs.assignment.AssignmentInterpretation.is_true.Goals as goal
use Rattle.clause_store.proofs.assignment.AssignmentInterpretation.is_true.Goals.{then-atom-eq0-via-then-atom-eq0, then-atom-eq0-via-else-atom-eq0+then-atom-vars}

pub returns-then-atom-eq0 : goal.returns-then-atom-eq0
returns-then-atom-eq0 c = elim c.then-atom-eq0.branch [
  | then-atom-eq0-via-then-atom-eq0 w ↦ sym (ap (true_in c.args.self.now) w.if-atom-eq0.true)
  | then-atom-eq0-via-else-atom-eq0+then-atom-vars w ↦
      let above : length c.args.self.now < c.args.atom = search rules in
      sym (true_in-above c.args.self.now c.args.atom above)
]

pub returns : goal.returns
returns c =
    let some : 0 < c.args.atom = omega (arith, c.if-atom-eq0.false) in
    let within : c.args.atom ≤ length c.self.inside.values.items = search rules in
    c.index.ensures ∙ true_in-get c.self.inside.values.items c.args.atom c.index.result.now some within ∙ ap (λ values. true_in values c.args.atom) c.self.view_is
