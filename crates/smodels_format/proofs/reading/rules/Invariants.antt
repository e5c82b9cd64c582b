-- What the text says from here is what it says from the rules on; the levels are counted, and are no more than the lines.
use Rattle.std.proofs.Common.{◌≡◌, ◌≤◌, ◌+◌, ◌^◌, length}
use Rattle.asp_scan.specs.Feeds.{HaveNoFeed}
use Rattle.smodels_format.specs.Read.{Stage, part, rule_entry}
use Rattle.smodels_format.proofs.reading.rules.Given as goal

abbrev pub invariant-lines : goal.invariant-lines
invariant-lines l = record {
  same : (next : Stage)
      → part rule_entry next l.scan.last l.builder l.scan.ahead ≡ part rule_entry next l.initial.scan.last l.initial.builder l.initial.scan.ahead;
  last : l.scan.last ≡ l.initial.scan.last;
  no_feed : HaveNoFeed l.scan.ahead;
  counted : l.levels ≡ length l.builder.levels;
  few : l.levels + length l.scan.ahead ≤ 2 ^ 31;
}

abbrev pub decreases-lines : goal.decreases-lines
decreases-lines l = length l.scan.ahead
