-- The literals so far have their weights.
use Rattle.std.proofs.Common.{drop}
use Rattle.smodels_format.proofs.Weighing.{Weighing}
use Rattle.smodels_format.proofs.body.weighted.Given as goal

abbrev pub invariant-loop-lit : goal.invariant-loop-lit
invariant-loop-lit l = Weighing l.lits (drop l.lit-index l.lits) l.initial.scan l.scan l.items.items
