use Rattle.asp_scan.proofs.NoFeed.{next-no_feed}
use Rattle.symbol_map.proofs.reading.read.Goals as goal

pub entries-requires-clause-no_feed : goal.entries-requires-clause-no_feed
entries-requires-clause-no_feed c = next-no_feed c.args.text.now c.new-scan.result _ c.new-scan.ensures c.in_ok-form.ensures.ahead
