-- The lines that were left behind were comments.
use Rattle.std.proofs.Common.{◌≡◌, ◌≤◌, length}
use Rattle.dimacs_format.specs.Read.{content_of}
use Rattle.dimacs_format.proofs.tokens.next_content.Given as goal

-- what is left of the comments' lines is left out
abbrev pub invariant-lines : goal.invariant-lines
invariant-lines l = record {
  same : content_of l.scan.ahead ≡ content_of l.initial.scan.ahead;
  shorter : length l.scan.ahead ≤ length l.initial.scan.ahead;
  last : l.scan.last ≡ l.initial.scan.last;
}

abbrev pub decreases-lines : goal.decreases-lines
decreases-lines l = length l.scan.ahead
