-- What is marked of the nodes so far is to be marked of the rest.
use Rattle.std.proofs.Common.{◌≡◌, drop}
use Rattle.graph_parts.specs.private.Searching.{marked}
use Rattle.graph_parts.proofs.search.mark.Given as goal

-- what is left to write gives the whole
abbrev pub invariant-loop-node : goal.invariant-loop-node
invariant-loop-node l = marked l.numbers l.number (drop l.node-index l.nodes) ≡ marked l.fn.numbers l.number l.nodes
