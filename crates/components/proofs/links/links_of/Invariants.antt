-- The links so far, and those of the rules that are left.
use Rattle.std.proofs.Common.{◌≡◌, ◌+◌, ◌++◌, drop}
use Rattle.std.specs.List.{AllByRecursion}
use Rattle.ground_program.specs.Facts.{Among, RuleFits}
use Rattle.components.specs.private.Links.{links_of_rules}
use Rattle.components.proofs.links.links_of.Given as goal

abbrev pub invariant-loop-rule : goal.invariant-loop-rule
invariant-loop-rule l = record {
  pushed : l.edges.items ++ links_of_rules l.atoms l.node (drop l.rule-index l.rules) ≡ links_of_rules l.atoms l.first l.rules;
  fit : AllByRecursion (RuleFits (Among l.atoms)) (drop l.rule-index l.rules);
  node_is : l.node ≡ l.first + l.rule-index;
}
