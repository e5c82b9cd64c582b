-- What is asked of the rule at hand.
use Rattle.std.proofs.Common.{◌+◌, arith}
use Rattle.level_ranking.proofs.NearLaws.{nearing-next}
use Rattle.level_ranking.proofs.rules.add_nears.Goals as goal

pub loop-rule-preserved : goal.loop-rule-preserved
loop-rule-preserved c =
    nearing-next c.args.own.now c.args.lower.now c.args.digits.now c.args.rules.now c.args.store.now c.loop-rule.store c.loop-rule.rule-index c.rule-item.result c.loop-rule-test.true c.rule-item.is
    c.loop-rule.invariant (c.loop-rule.rule-index + 1) (omega arith) c.add_near.new.store c.in_ok-add_near.ensures.store c.in_ok-add_near.ensures.from c.in_ok-add_near.ensures.few
