-- The rules so far lead to all of them.
use Rattle.level_ranking.proofs.NearLaws.{Nearing}
use Rattle.level_ranking.proofs.rules.add_nears.Given as goal

abbrev pub invariant-loop-rule : goal.invariant-loop-rule
invariant-loop-rule l = Nearing l.own l.lower l.digits l.rules l.fn.store l.store l.rule-index
