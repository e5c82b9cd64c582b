use Rattle.std.proofs.Common.{◌≡◌, ◌++◌, drop}
use Rattle.clause_store.specs.Assigned.{true_in}
use Rattle.clause_store.specs.private.Linking.{ends_of}
use Rattle.clause_store.proofs.linked.linked_ends.Given as goal

abbrev pub invariant-loop-edge : goal.invariant-loop-edge
invariant-loop-edge l = l.list.items ++ ends_of (drop l.edge-index l.edges) (true_in l.values) ≡ ends_of l.edges (true_in l.values)
