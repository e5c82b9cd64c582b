-- A text of 2^32 bytes has at most 2^31 lines that are not blank, and none has a line feed.
use Rattle.std.proofs.Common.{◌≤◌, ◌+◌, ◌*◌, length, arith, sym, ap, subst}
use Rattle.asp_scan.specs.Lines.{lines_of}
use Rattle.asp_scan.specs.Feeds.{HaveNoFeed}
use Rattle.asp_scan.proofs.NoFeed.{lines_of-no_feed}
use Rattle.smodels_format.proofs.FewLines.{lines_of-few}
use Rattle.smodels_format.proofs.reading.read.Goals as goal

pub parts-requires-clause-few : goal.parts-requires-clause-few
parts-requires-clause-few c =
    let few : 2 * length (lines_of c.args.text.now) ≤ length c.args.text.now + 1 = lines_of-few c.args.text.now in
    omega (arith, ap (λ s. length s.ahead) c.new-scan.ensures)

pub parts-requires-clause-no_feed : goal.parts-requires-clause-no_feed
parts-requires-clause-no_feed c = subst (λ s. HaveNoFeed s.ahead) (sym c.new-scan.ensures) (lines_of-no_feed c.args.text.now)
