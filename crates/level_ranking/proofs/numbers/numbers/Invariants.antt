-- The digits so far lead to those of all atoms.
use Rattle.level_ranking.proofs.Numbering.{Numbering}
use Rattle.level_ranking.proofs.numbers.numbers.Given as goal

abbrev pub invariant-loop-i : goal.invariant-loop-i
invariant-loop-i l = Numbering l.atoms l.parts l.fn.store l.store l.table.items l.i
