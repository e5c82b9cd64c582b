use Rattle.std.proofs.Common.{length}
use Rattle.symbol_map.proofs.LinesSoFar.{LinesSoFar}
use Rattle.symbol_map.proofs.reading.entries.Given as goal

abbrev pub invariant-lines : goal.invariant-lines
invariant-lines l = LinesSoFar l.fn.form l.vars l.initial.scan l.scan l.stage l.draft

abbrev pub decreases-lines : goal.decreases-lines
decreases-lines l = length l.scan.ahead
