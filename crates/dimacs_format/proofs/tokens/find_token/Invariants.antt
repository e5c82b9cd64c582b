-- The lines that were left behind had no token left.
use Rattle.std.proofs.Common.{◌≡◌, ◌≤◌, length}
use Rattle.dimacs_format.specs.private.Walks.{items_left, skipped}
use Rattle.dimacs_format.proofs.tokens.find_token.Given as goal

abbrev pub invariant-lines : goal.invariant-lines
invariant-lines l = record {
  same : skipped (items_left l.scan) ≡ skipped (items_left l.initial.scan);
  shorter : length (items_left l.scan) ≤ length (items_left l.initial.scan);
  last : l.scan.last ≡ l.initial.scan.last;
}

abbrev pub decreases-lines : goal.decreases-lines
decreases-lines l = length l.scan.ahead
