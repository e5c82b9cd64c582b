-- The numbers of the nodes so far are used.
use Rattle.std.proofs.Common.{◌≡◌, ◌+◌, length, take}
use Rattle.graph_parts.specs.private.Ranks.{AreUsed}
use Rattle.graph_parts.proofs.among.used_numbers.Given as goal

abbrev pub invariant-loop-number : goal.invariant-loop-number
invariant-loop-number l = record {
  used : AreUsed (take l.number-index l.numbers) l.used.items;
  sized : length l.used.items ≡ l.count + 1;
}
