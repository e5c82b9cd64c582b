use Rattle.asp_scan.proofs.NoFeed.{next-no_feed}
use Rattle.aspif_format.proofs.reading.read.Goals as goal

pub statements-requires : goal.statements-requires
statements-requires c = next-no_feed c.args.text.now c.new-scan.result _ c.new-scan.ensures c.in_ok-header_line.ensures.ahead
