use Rattle.std.proofs.Common.{◌≡◌, length}
use Rattle.asp_scan.specs.Feeds.{HaveNoFeed}
use Rattle.aspif_format.specs.Read.{statements}
use Rattle.aspif_format.proofs.reading.statements.Given as goal

abbrev pub invariant-lines : goal.invariant-lines
invariant-lines l = record {
  same : statements l.scan.last l.builder l.scan.ahead ≡ statements l.initial.scan.last l.initial.builder l.initial.scan.ahead;
  last : l.scan.last ≡ l.initial.scan.last;
  no_feed : HaveNoFeed l.scan.ahead;
}

abbrev pub decreases-lines : goal.decreases-lines
decreases-lines l = length l.scan.ahead
