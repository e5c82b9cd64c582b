-- When all nodes are found and the chain is empty, the numbers are those of the parts.
use Rattle.std.proofs.Common.{arith}
use Rattle.graph_parts.proofs.NumberLaws.{are-parts}
use Rattle.graph_parts.proofs.numbering.number_parts.Goals as goal

pub returns-clause-parts : goal.returns-clause-parts
returns-clause-parts c =
    are-parts _ _ _ _ _ _ _ _ _ c.loop-node.invariant.0 c.loop-node.invariant.1 (λ u inside. c.loop-node.invariant.2 u (let done = c.loop-node-test.false in omega arith))
