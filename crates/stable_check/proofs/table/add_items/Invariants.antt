use Rattle.std.proofs.Common.{◌≡◌, drop, length}
use Rattle.stable_check.specs.private.Lack.{naturals}
use Rattle.stable_check.specs.private.Links.{with_items}
use Rattle.stable_check.proofs.table.add_items.Given as goal

abbrev pub invariant-loop-item : goal.invariant-loop-item
invariant-loop-item l = record {
  rules : l.table.rules ≡ l.initial.table.rules;
  same : length l.table.rows ≡ length l.atoms;
  rest : with_items l.atoms l.rule (naturals (drop l.item-index l.items)) l.table.rows ≡ with_items l.atoms l.rule (naturals l.items) l.initial.table.rows;
}
