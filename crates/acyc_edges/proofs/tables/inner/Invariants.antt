-- What the loop of `inner` has done so far.
use Rattle.std.proofs.Common.{◌≡◌, map, take, drop}
use Rattle.std.specs.List.{AllByRecursion}
use Rattle.ground_program.specs.Facts.{Among, RuleFits}
use Rattle.ground_program.specs.Normal.{AreNormal}
use Rattle.acyc_edges.specs.private.Tables.{inner_by}
use Rattle.acyc_edges.proofs.tables.inner.Given as goal
use Rattle.components.specs.Divided.{part_of}

abbrev pub invariant-loop-rule : goal.invariant-loop-rule
invariant-loop-rule l = record {
  pushed : l.lists.items ≡ map (inner_by (part_of l.parts)) (take l.rule-index l.program.rules);
  normal : AreNormal (drop l.rule-index l.program.rules);
  fit : AllByRecursion (RuleFits (Among l.program.atoms)) (drop l.rule-index l.program.rules);
}
