-- There is room for one clause more.
use Rattle.std.proofs.lemmas.Option.{slice_get_read}
use Rattle.std.proofs.Common.{◌≡◌, refl, ◌+◌, ◌*◌, ◌≤◌, ◌<◌, ◌^◌, subst, length, slice_get, Some, arith}
use Rattle.asp_scan.specs.Words.{line_of}
use Rattle.clause_store.specs.Facts.{Fits}
use Rattle.dimacs_format.specs.Written.{clause_words, weighted_words}
use Rattle.dimacs_format.proofs.Lengths.{clause_length, weighted_length, soft_lines_more, all_at}
use Rattle.dimacs_format.proofs.WeightSteps.{IsSoft}
use Rattle.dimacs_format.proofs.wcnf_writer.soft_bytes.Goals as goal

pub loop-i-preserved : goal.loop-i-preserved
loop-i-preserved c =
    let F = c.args.formula.now in
    let i = c.loop-i.i in
    let clause = c.index-soft-i.result in
    let width = c.digits-width.result in
    let fits : Fits F = subst Fits c.formula.view_is c.formula.invariant in
    let slice = c.as_slice-soft.result.now in
    let same : slice ≡ F.soft = subst (λ G. slice ≡ G.soft) c.formula.view_is c.as_slice-soft.ensures in
    let at : slice_get F.soft i ≡ Some clause = subst (λ xs. slice_get xs i ≡ Some clause) same (slice_get_read slice (length slice) i clause refl c.loop-i-test.true c.index-soft-i.is) in
    let enough : F.vars < 10 ^ width = subst (λ G. G.vars < 10 ^ width) c.formula.view_is c.digits-width.ensures.enough in
    let over : IsSoft F.vars clause = all_at (IsSoft F.vars) F.soft i clause fits.soft at in
    let line : length (line_of (clause_words clause.lits)) ≤ length clause.lits * (width + 2) + 2 = clause_length width F.vars clause.lits c.digits-width.ensures.some enough (omega (arith, fits.vars)) over.1 in
    let weighted : length (line_of (weighted_words clause.weight clause.lits)) ≤ 21 + length (line_of (clause_words clause.lits)) = weighted_length clause.weight clause.lits c.bytes_of.ensures.weight in
    omega (arith, line, weighted, soft_lines_more F.soft i clause at, c.bytes_of.ensures.is, c.saturating_add-most.ensures, c.loop-i.invariant)
