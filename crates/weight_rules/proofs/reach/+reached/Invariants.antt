use Rattle.std.proofs.Common.{length}
use Rattle.weight_rules.proofs.reach.+reached.Given as goal

abbrev pub decreases-reached : goal.decreases-reached
decreases-reached l = length l.radices.now
