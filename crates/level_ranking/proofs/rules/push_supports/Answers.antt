-- One more support behind the others.
use Rattle.std.proofs.Common.{◌+◌, arith}
use Rattle.level_ranking.proofs.Supporting.{supporting-next}
use Rattle.level_ranking.proofs.rules.push_supports.Goals as goal

pub loop-rule-preserved : goal.loop-rule-preserved
loop-rule-preserved c = rw c.in_ok-push.ensures.items
    (supporting-next c.args.lower.now c.args.digits.now c.args.rules.now c.args.store.now c.loop-rule.store c.args.supports.now.items c.loop-rule.supports.items c.loop-rule.rule-index c.rule-item.result c.loop-rule-test.true c.rule-item.is
    c.loop-rule.invariant (c.loop-rule.rule-index + 1) (omega arith) c.support.new.store c.in_ok-literal.literal c.in_ok-literal.ensures.store c.in_ok-literal.ensures.literal c.in_ok-literal.ensures.from c.in_ok-literal.ensures.few c.in_ok-literal.ensures.over)
