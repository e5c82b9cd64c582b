-- What the loop of `owners` has done so far.
use Rattle.std.proofs.Common.{◌≡◌, take}
use Rattle.std.specs.List.{flat_map}
use Rattle.acyc_edges.specs.Encoding.{counted}
use Rattle.acyc_edges.specs.private.Tables.{owner_at}
use Rattle.acyc_edges.proofs.tables.owners.Given as goal

abbrev pub invariant-loop-index : goal.invariant-loop-index
invariant-loop-index l = l.pairs.items ≡ flat_map (owner_at l.program) (take l.index (counted 0 l.program.rules))
