-- None so far has the number.
use Rattle.std.proofs.Common.{◌≡◌, ◌==◌, drop, get_or}
use Rattle.std.specs.List.{list_any}
use Rattle.graph_parts.proofs.dividing.leads_to.Given as goal

abbrev pub invariant-loop-node : goal.invariant-loop-node
invariant-loop-node l = list_any (λ v. get_or l.numbers v 0 == l.number) (drop l.node-index l.nodes) ≡ list_any (λ v. get_or l.numbers v 0 == l.number) l.nodes
