use Rattle.rising_numbers.proofs.IndexLaws.{Begun}
use Rattle.rising_numbers.proofs.index.block_starts.Given as goal

abbrev pub invariant-loop-index : goal.invariant-loop-index
invariant-loop-index l = Begun l.numbers l.starts.items l.index
