-- What the loop of `with_number` has done so far.
use Rattle.std.proofs.Common.{◌≡◌, ◌==◌, ◌++◌, drop}
use Rattle.std.specs.List.{filter}
use Rattle.ground_program.specs.Facts.{Among, LiteralsFit}
use Rattle.ground_program.specs.Dependencies.{positives_of_literals}
use Rattle.acyc_edges.proofs.tables.with_number.Given as goal
use Rattle.components.specs.Divided.{part_of}

abbrev pub invariant-loop-lit : goal.invariant-loop-lit
invariant-loop-lit l = record {
  pushed : l.list.items ++ filter (λ b. part_of l.parts b == l.number) (positives_of_literals (drop l.lit-index l.lits)) ≡ filter (λ b. part_of l.parts b == l.number) (positives_of_literals l.lits);
  fit : LiteralsFit (Among l.parts.atoms) (drop l.lit-index l.lits);
}
