-- What the loop of `count_of_new` has done so far.
use Rattle.std.proofs.Common.{◌≤◌}
use Rattle.acyc_edges.proofs.numbers.count_of_new.Given as goal

abbrev pub invariant-loop-name : goal.invariant-loop-name
invariant-loop-name l = l.count ≤ l.name-index
