-- The rules so far lead to all of them.
use Rattle.level_ranking.proofs.Supporting.{Supporting}
use Rattle.level_ranking.proofs.rules.push_supports.Given as goal

abbrev pub invariant-loop-rule : goal.invariant-loop-rule
invariant-loop-rule l = Supporting l.lower l.digits l.rules l.fn.store l.store l.fn.supports.items l.supports.items l.rule-index
