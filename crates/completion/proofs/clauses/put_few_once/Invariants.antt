use Rattle.std.proofs.Common.{◌≡◌, ◌++◌, take}
use Rattle.completion.specs.Completion.{each_once}
use Rattle.completion.proofs.clauses.put_few_once.Given as goal

abbrev pub invariant-loop-i : goal.invariant-loop-i
invariant-loop-i l = l.clause.items ≡ l.initial.clause.items ++ each_once (take l.i l.lits)
