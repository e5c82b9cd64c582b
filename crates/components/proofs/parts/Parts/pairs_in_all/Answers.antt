-- One more component is added.
use Rattle.std.proofs.Common.{◌≡◌, ◌+◌, arith}
use Rattle.std.specs.List.{range_with_len, sum_by}
use Rattle.components.specs.private.Measured.{pairs_kept}
use Rattle.components.proofs.SumLaws.{sum-next}
use Rattle.components.proofs.parts.Parts.pairs_in_all.Goals as goal

pub loop-k-preserved : goal.loop-k-preserved
loop-k-preserved c =
    let more : sum_by (pairs_kept c.args.self.now) (range_with_len 1 (c.loop-k.k + 1)) ≡ sum_by (pairs_kept c.args.self.now) (range_with_len 1 c.loop-k.k) + pairs_kept c.args.self.now (c.loop-k.k + 1) = sum-next (pairs_kept c.args.self.now) c.loop-k.k in
    let total = c.joined-total.ensures in
    let one = c.pairs_in.ensures in
    let so_far = c.loop-k.invariant in
    omega arith
