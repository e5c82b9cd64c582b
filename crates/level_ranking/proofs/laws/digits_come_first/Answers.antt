-- The digits of an atom stand behind those of the atoms before it.
use Rattle.level_ranking.proofs.FirstDigits.{digits-first}
use Rattle.level_ranking.proofs.laws.digits_come_first.Goals as goal

pub returns : goal.returns
returns c = digits-first
