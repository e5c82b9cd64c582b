use Rattle.std.proofs.Common.{rules, ◌≡◌, ◌+◌, false}
use Rattle.graph_parts.specs.Divided.{is_cyclic_at}
use Rattle.level_ranking.proofs.FirstDigits.{none-more}
use Rattle.level_ranking.proofs.ranking.has_cyclic.Goals as goal

pub loop-before-preserved : goal.loop-before-preserved
loop-before-preserved c =
    let not : is_cyclic_at c.args.parts.now.cyclic (c.loop-before.before + 1) ≡ false = search rules in
    none-more (is_cyclic_at c.args.parts.now.cyclic) c.loop-before.before c.loop-before.invariant not
