-- What the loop of `kept` has done so far.
use Rattle.std.proofs.Common.{◌≡◌, take, drop, filter, not}
use Rattle.std.specs.List.{AllByRecursion}
use Rattle.ground_program.specs.Facts.{Among, RuleFits}
use Rattle.acyc_edges.specs.Encoding.{has_head_in, is_cyclic}
use Rattle.ground_program.specs.Normal.{AreNormal}
use Rattle.components.specs.Divided.{cyclic_numbers, part_of}
use Rattle.acyc_edges.proofs.kept.kept.Given as goal

abbrev pub invariant-loop-rule : goal.invariant-loop-rule
invariant-loop-rule l = record {
  pushed : l.rules ≡ filter (λ r. not (has_head_in (is_cyclic l.program (part_of l.parts) (cyclic_numbers l.parts)) r.head)) (take l.rule-index l.program.rules);
  normal : AreNormal (drop l.rule-index l.program.rules);
  fit : AllByRecursion (RuleFits (Among l.program.atoms)) (drop l.rule-index l.program.rules);
}
