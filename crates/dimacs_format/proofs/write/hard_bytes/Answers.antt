-- There is room for one clause more.
use Rattle.std.proofs.Common.{◌≡◌, ◌+◌, ◌*◌, ◌≤◌, ◌<◌, ◌^◌, subst, length, slice_get, Some, arith}
use Rattle.asp_scan.specs.Words.{line_of}
use Rattle.clause_store.specs.Facts.{IsOver, Fits}
use Rattle.std.specs.List.{AllByRecursion}
use Rattle.dimacs_format.specs.Written.{clause_words}
use Rattle.dimacs_format.proofs.Lengths.{clause_length, lines_more, all_at}
use Rattle.dimacs_format.proofs.write.hard_bytes.Goals as goal

pub loop-i-preserved : goal.loop-i-preserved
loop-i-preserved c =
    let F = c.args.formula.now in
    let i = c.loop-i.i in
    let clause = c.get.result.now in
    let width = c.digits-width.result in
    let fits : Fits F = subst Fits c.formula.view_is c.formula.invariant in
    let at : slice_get F.hard i ≡ Some clause = subst (λ G. slice_get G.hard i ≡ Some clause) c.formula.view_is c.get.ensures.clause in
    let enough : F.vars < 10 ^ width = subst (λ G. G.vars < 10 ^ width) c.formula.view_is c.digits-width.ensures.enough in
    let over : AllByRecursion (IsOver F.vars) clause = all_at (AllByRecursion (IsOver F.vars)) F.hard i clause fits.hard at in
    let line : length (line_of (clause_words clause)) ≤ length clause * (width + 2) + 2 =
    clause_length width F.vars clause c.digits-width.ensures.some enough (omega (arith, fits.vars)) over in
    omega (arith, line, lines_more F.hard i clause at, c.saturating_mul-literals.ensures, c.saturating_add.ensures, c.saturating_add-most.ensures, c.loop-i.invariant)
