use Rattle.std.proofs.Common.{◌≡◌, ◌*◌, ◌^◌, pos, neg_ℤ, ◌+ℤ◌, ◌≤ℤ◌, drop}
use Rattle.ground_program.specs.Stable.{weight_of}
use Rattle.evaluation.proofs.costs.cost_of_items.Given as goal

abbrev pub invariant-loop-item : goal.invariant-loop-item
invariant-loop-item g l = record {
  sum : l.cost +ℤ weight_of (drop l.item-index l.items) (g.I.Interpretation.truth l.truth) (g.I.Interpretation.truth l.truth) ≡ weight_of l.items (g.I.Interpretation.truth l.truth) (g.I.Interpretation.truth l.truth);
  least : neg_ℤ (pos (2 ^ 31 * l.item-index)) ≤ℤ l.cost;
  most : l.cost ≤ℤ pos (2 ^ 31 * l.item-index);
}
