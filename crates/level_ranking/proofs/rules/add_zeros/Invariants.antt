-- The digits so far lead to all of them.
use Rattle.level_ranking.proofs.Zeroing.{Zeroing}
use Rattle.level_ranking.proofs.rules.add_zeros.Given as goal

abbrev pub invariant-loop-i : goal.invariant-loop-i
invariant-loop-i l = Zeroing l.lits l.rule.body l.fn.store l.store l.i
