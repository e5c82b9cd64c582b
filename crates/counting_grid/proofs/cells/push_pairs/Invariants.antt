-- So many of the cells stand behind the others.
use Rattle.counting_grid.proofs.PairLaws.{RowPairs}
use Rattle.counting_grid.proofs.cells.push_pairs.Given as goal

abbrev pub invariant-loop-i : goal.invariant-loop-i
invariant-loop-i l = RowPairs l.fn.net l.net l.fn.row l.row l.before l.lit l.i
