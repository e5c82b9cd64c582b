use Rattle.std.proofs.Common.{◌≡◌, ◌<◌, length, arith}
use Rattle.completion.specs.Heads.{heads_from}
use Rattle.completion.proofs.HeadLaws.{heads-done, heads-few, heads-keys, heads-below, each-pair}
use Rattle.completion.proofs.grouping.heads.Goals as goal

pub returns-clause-few : goal.returns-clause-few
returns-clause-few c =
    let is : c.loop-i.pairs.items ≡ heads_from c.args.atoms.now 0 c.args.rules.now = heads-done _ _ c.loop-i.i _ (omega arith) c.loop-i.invariant.pushed in
    rw is (heads-few c.args.atoms.now c.args.rules.now 0)

pub returns-clause-keys : goal.returns-clause-keys
returns-clause-keys c =
    let is : c.loop-i.pairs.items ≡ heads_from c.args.atoms.now 0 c.args.rules.now = heads-done _ _ c.loop-i.i _ (omega arith) c.loop-i.invariant.pushed in
    each-pair (λ p. p.0 < length c.args.atoms.now) c.loop-i.pairs.items (rw is (heads-keys c.args.atoms.now c.args.rules.now 0 c.requires.fit))

pub returns-clause-places : goal.returns-clause-places
returns-clause-places c =
    let is : c.loop-i.pairs.items ≡ heads_from c.args.atoms.now 0 c.args.rules.now = heads-done _ _ c.loop-i.i _ (omega arith) c.loop-i.invariant.pushed in
    each-pair (λ p. p.1 < length c.args.rules.now) c.loop-i.pairs.items (rw is (heads-below c.args.atoms.now c.args.rules.now 0 (length c.args.rules.now) (omega arith)))
