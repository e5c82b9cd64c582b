-- From what is kept, the links that are left give what all of them give.
use Rattle.std.proofs.Common.{◌≡◌, ℕ, ◌+◌, ◌≤◌, length, get_or, drop}
use Rattle.components.specs.private.Adding.{run}
use Rattle.components.proofs.adding.added.Given as goal

abbrev pub invariant-loop-edge : goal.invariant-loop-edge
invariant-loop-edge l = record {
  runs : (i : ℕ) → i ≤ l.count → run (length l.numbers) l.each i l.numbers l.costs (drop l.edge-index l.edges) (get_or l.last.items i 0, get_or l.sums.items i 0) ≡ run (length l.numbers) l.each i l.numbers l.costs l.edges (0, 0);
  last_sized : length l.last.items ≡ l.count + 1;
  sums_sized : length l.sums.items ≡ l.count + 1;
}
