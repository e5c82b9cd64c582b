use Rattle.std.proofs.Common.{◌≡◌, ◌∙◌, ap, ◌==◌, ◌-◌, ℕ, rules}
use Rattle.asp_base.specs.Sets.{members}
use Rattle.stable_check.specs.private.Lack.{natural, naturals, total}
use Rattle.stable_check.proofs.VerdictLaws.{sum-test}
use Rattle.stable_check.proofs.truth.sum_reaches.Goals as goal

pub returns : goal.returns
returns c =
    let e : c.lack.result ≡ natural c.args.bound - total (naturals c.args.items.now) (members c.args.set.now) (members c.args.set.now) = search rules in
    ap (λ (n : ℕ). n == 0) e ∙ sum-test c.args.bound c.args.items.now (members c.args.set.now) (members c.args.set.now) c.requires.fits
