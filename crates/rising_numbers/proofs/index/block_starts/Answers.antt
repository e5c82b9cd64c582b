use Rattle.std.proofs.Common.{rules, ◌<◌, ◌≤◌, ◌≡◌, ◌+◌, ◌/◌, sym, subst, length, get_or, refl, arith}
use Rattle.std.specs.Vec.{vec_len}
use Rattle.rising_numbers.specs.private.Index.{AreStarts}
use Rattle.rising_numbers.proofs.IndexLaws.{Begun, begun-more, begun-same, begun-all}
use Rattle.rising_numbers.proofs.index.block_starts.Goals as goal
use Rattle.rising_numbers.proofs.index.block_starts.Goals.{then-len-blocks+in_ok-resize, else-len-blocks}

pub loop-index-preserved : goal.loop-index-preserved
loop-index-preserved c =
    let size : vec_len c.loop-index.starts ≡ length c.loop-index.starts.items = search rules in
    elim c.if-len-blocks.branch [
      | then-len-blocks+in_ok-resize w ↦
          subst (λ v. Begun c.args.numbers.now v.items (c.loop-index.index + 1)) (sym w.starts-is)
          (subst (λ xs. Begun c.args.numbers.now xs (c.loop-index.index + 1)) (sym (w.in_ok-resize.ensures.items))
          (rw size (begun-more c.args.numbers.now c.loop-index.starts.items c.loop-index.index (get_or c.args.numbers.now c.loop-index.index 0 / 32)
          c.requires.rise c.loop-index-test.true c.loop-index.invariant refl (let less : c.len.result < get_or c.args.numbers.now c.loop-index.index 0 / 32 + 1 = w.if-len-blocks.true in omega (arith, size, c.len.ensures)))))
      | else-len-blocks w ↦
          subst (λ v. Begun c.args.numbers.now v.items (c.loop-index.index + 1)) (sym w.starts-is)
          (begun-same c.args.numbers.now c.loop-index.starts.items c.loop-index.index c.loop-index.invariant (let le : get_or c.args.numbers.now c.loop-index.index 0 / 32 + 1 ≤ c.len.result = w.if-len-blocks.false in omega (arith, size, c.len.ensures)))
    ]

pub returns : goal.returns
returns c =
    let at : c.loop-index.index ≡ length c.args.numbers.now = omega (arith, c.loop-index-test.false, c.loop-index.auto.index-end) in
    subst (AreStarts c.args.numbers.now) (sym c.in_ok-push.ensures.items)
    (begun-all c.args.numbers.now c.loop-index.starts.items (rw at at c.loop-index.invariant))
