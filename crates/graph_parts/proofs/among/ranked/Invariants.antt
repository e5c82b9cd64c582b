-- The ranks of the nodes so far.
use Rattle.std.proofs.Common.{◌≡◌, get_or, map, take}
use Rattle.graph_parts.proofs.among.ranked.Given as goal

abbrev pub invariant-loop-number : goal.invariant-loop-number
invariant-loop-number l = l.ranked.items ≡ map (λ i. get_or l.ranks i 0) (take l.number-index l.numbers)
