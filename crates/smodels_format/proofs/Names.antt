-- The name of an entry has no line feed, as its line has none.
use Rattle.asp_scan.proofs.NoFeed.{skip_blanks-no_feed, bytes_from-left_no_feed}

pub ruleset name_feeds = (skip_blanks-no_feed, bytes_from-left_no_feed)
