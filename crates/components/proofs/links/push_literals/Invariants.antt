-- The edges so far, and those of the literals that are left.
use Rattle.std.proofs.Common.{◌≡◌, ◌++◌, drop}
use Rattle.std.specs.List.{AllByRecursion}
use Rattle.asp_base.specs.Literal.{atom_of}
use Rattle.ground_program.specs.Facts.{Among}
use Rattle.ground_program.specs.Dependencies.{positives_of_literals}
use Rattle.components.specs.private.Links.{edges_from}
use Rattle.components.proofs.links.push_literals.Given as goal

abbrev pub invariant-loop-lit : goal.invariant-loop-lit
invariant-loop-lit l = record {
  pushed : l.out.items ++ edges_from l.atoms l.node (positives_of_literals (drop l.lit-index l.lits)) ≡ l.initial.out.items ++ edges_from l.atoms l.node (positives_of_literals l.lits);
  fit : AllByRecursion (λ lit. Among l.atoms (atom_of lit)) (drop l.lit-index l.lits);
}
