use Rattle.std.proofs.Common.{◌≡◌, drop, length}
use Rattle.stable_check.specs.private.Lack.{one_each}
use Rattle.stable_check.specs.private.Links.{with_items}
use Rattle.stable_check.proofs.table.add_literals.Given as goal

abbrev pub invariant-loop-lit : goal.invariant-loop-lit
invariant-loop-lit l = record {
  rules : l.table.rules ≡ l.initial.table.rules;
  same : length l.table.rows ≡ length l.atoms;
  rest : with_items l.atoms l.rule (one_each (drop l.lit-index l.lits)) l.table.rows ≡ with_items l.atoms l.rule (one_each l.lits) l.initial.table.rows;
}
