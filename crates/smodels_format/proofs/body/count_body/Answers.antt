-- As many items as literals, each with weight 1, fit a body.
use Rattle.std.proofs.Common.{rules, arith}
use Rattle.smodels_format.proofs.Weighing.{counting-fits, counting-long}
use Rattle.smodels_format.proofs.body.count_body.Goals as goal

pub returns-clause-fits : goal.returns-clause-fits
returns-clause-fits c = (
  search rules,
  omega (arith, counting-long _ _ _ c.as_slice.ensures c.in_ok-items.ensures, c.in_ok-lits.ensures.size, c.in_ok-lengths.ensures.short),
  counting-fits _ _ _ c.as_slice.ensures c.in_ok-items.ensures c.in_ok-lits.ensures.fits,
)
