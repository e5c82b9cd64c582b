-- No body so far is empty, and the literals so far lead to all of them.
use Rattle.std.proofs.Common.{◌≡◌, ◌++◌, drop}
use Rattle.std.specs.List.{list_any}
use Rattle.completion.specs.Completion.{is_empty}
use Rattle.completion.specs.private.Definitions.{bodies_at, given}
use Rattle.completion.proofs.clauses.put_bodies.Given as goal

abbrev pub invariant-loop-place : goal.invariant-loop-place
invariant-loop-place l = record {
  sure : list_any is_empty (bodies_at l.literals (drop l.place-index l.places)) ≡ list_any is_empty (bodies_at l.literals l.places);
  bodies : l.bodies.items ++ given (bodies_at l.literals (drop l.place-index l.places)) ≡ given (bodies_at l.literals l.places);
}
