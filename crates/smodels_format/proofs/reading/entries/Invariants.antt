-- What the text says from here is what it says from the first entry of the part on, and the lines ahead have no line feed.
use Rattle.std.proofs.Common.{◌≡◌, length}
use Rattle.asp_scan.specs.Feeds.{HaveNoFeed}
use Rattle.smodels_format.specs.Read.{Stage, part}
use Rattle.smodels_format.specs.private.Steps.{entry_of}
use Rattle.smodels_format.proofs.reading.entries.Given as goal

abbrev pub invariant-lines : goal.invariant-lines
invariant-lines l = record {
  same : (next : Stage)
      → part (entry_of l.entries) next l.scan.last l.builder l.scan.ahead
      ≡ part (entry_of l.entries) next l.initial.scan.last l.initial.builder l.initial.scan.ahead;
  last : l.scan.last ≡ l.initial.scan.last;
  no_feed : HaveNoFeed l.scan.ahead;
}

abbrev pub decreases-lines : goal.decreases-lines
decreases-lines l = length l.scan.ahead
