-- One more number is used.
use Rattle.std.proofs.Common.{arith, ◌∙◌}
use Rattle.std.proofs.lemmas.List.{length-set}
use Rattle.graph_parts.proofs.RankLaws.{used-more}
use Rattle.graph_parts.proofs.among.used_numbers.Goals as goal

pub loop-number-preserved : goal.loop-number-preserved
loop-number-preserved c =
    let most = c.requires c.loop-number.number-index c.loop-number-test.true in
    let sized = c.loop-number.invariant.sized in
    record {
      used = used-more c.args.numbers.now c.loop-number.used.items c.loop-number.number-index c.loop-number-test.true (omega arith) c.loop-number.invariant.used;
      sized = length-set c.loop-number.used.items _ _ ∙ sized;
    }
