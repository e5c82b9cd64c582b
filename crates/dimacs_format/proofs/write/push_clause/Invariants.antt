-- The literals so far are written, each with a blank behind it.
use Rattle.std.proofs.Common.{◌≡◌, ◌++◌, take}
use Rattle.std.specs.List.{flat_map}
use Rattle.dimacs_format.proofs.ClauseLines.{literal_piece}
use Rattle.dimacs_format.proofs.write.push_clause.Given as goal

abbrev pub invariant-loop-lit : goal.invariant-loop-lit
invariant-loop-lit l = l.out.items ≡ l.fn.out.items ++ flat_map literal_piece (take l.lit-index l.lits)
