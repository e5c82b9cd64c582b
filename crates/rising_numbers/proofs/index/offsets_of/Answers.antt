use Rattle.std.proofs.Common.{◌≡◌, length, subst, arith, rules}
use Rattle.rising_numbers.proofs.IndexLaws.{offset-more, offsets-all, start-before}
use Rattle.rising_numbers.specs.private.Index.{IsBehind}
use Rattle.rising_numbers.proofs.index.offsets_of.Goals as goal

pub overflow_cast-index : goal.overflow_cast-index
overflow_cast-index c =
    let near = start-before c.args.numbers.now c.args.starts.now c.loop-index.index c.requires.rise c.requires.starts c.loop-index-test.true in
    let small = near.2 in omega (arith, small)

pub loop-index-preserved : goal.loop-index-preserved
loop-index-preserved c = record {
  behind = subst (IsBehind c.args.numbers.now) (search rules) c.loop-index.invariant.behind;
  offsets = offset-more c.args.numbers.now c.args.starts.now c.loop-index.offsets.items c.loop-index.index c.requires.rise c.requires.starts c.loop-index-test.true
      (c.loop-index.invariant.behind.below c.loop-index.index c.loop-index-test.true) c.loop-index.invariant.offsets;
}

pub returns : goal.returns
returns c =
    let at : c.loop-index.index ≡ length c.args.numbers.now = omega (arith, c.loop-index-test.false, c.loop-index.auto.index-end) in
    offsets-all c.args.numbers.now c.args.starts.now c.loop-index.offsets.items c.requires.rise c.requires.starts c.loop-index.invariant.behind
    (rw at at c.loop-index.invariant.offsets)
