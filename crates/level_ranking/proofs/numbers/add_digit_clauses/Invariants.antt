-- The clauses of the digits so far.
use Rattle.level_ranking.proofs.Numbering.{Zeroed}
use Rattle.level_ranking.proofs.numbers.add_digit_clauses.Given as goal

abbrev pub invariant-loop-lit : goal.invariant-loop-lit
invariant-loop-lit l = Zeroed l.var l.lits l.fn.store l.store l.some l.lit-index
