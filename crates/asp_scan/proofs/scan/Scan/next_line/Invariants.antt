use Rattle.std.proofs.Common.{◌≡◌, ◌+◌, ◌<◌, ◌^◌, max, suc, length}
use Rattle.asp_scan.specs.Lines.{pieces_of, numbered}
use Rattle.asp_scan.proofs.scan.Scan.next_line.Given as goal

-- the lines that are still to come are the same, also behind blank ones
abbrev pub invariant-loop-piece : goal.invariant-loop-piece
invariant-loop-piece l = record {
  ahead : numbered (suc l.self-inside.number) (pieces_of l.self-inside.rest.now) ≡ l.fn.self.ahead;
  last : max 1 (l.self-inside.number + length (pieces_of l.self-inside.rest.now)) ≡ l.fn.self.last;
  fits : l.self-inside.number + length l.self-inside.rest.now < 2 ^ 63;
}

abbrev pub decreases-loop-piece : goal.decreases-loop-piece
decreases-loop-piece l = length l.self-inside.rest.now
