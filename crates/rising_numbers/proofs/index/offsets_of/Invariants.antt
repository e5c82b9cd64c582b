use Rattle.std.proofs.Common.{length}
use Rattle.rising_numbers.specs.private.Index.{IsBehind}
use Rattle.rising_numbers.proofs.IndexLaws.{Offset}
use Rattle.rising_numbers.proofs.index.offsets_of.Given as goal

abbrev pub invariant-loop-index : goal.invariant-loop-index
invariant-loop-index l = record {
  behind : IsBehind l.numbers (length l.offsets.items);
  offsets : Offset l.numbers l.starts l.index l.offsets.items;
}
