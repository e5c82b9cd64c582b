-- There is room for one edge more.
use Rattle.std.proofs.lemmas.Option.{slice_get_read}
use Rattle.std.proofs.Common.{◌≡◌, refl, ◌+◌, ◌≤◌, ◌<◌, ◌^◌, subst, length, slice_get, Some, arith}
use Rattle.asp_scan.specs.Words.{line_of}
use Rattle.clause_store.specs.Facts.{IsOver, Fits}
use Rattle.clause_store.specs.declared.formula.LitEdge.{LitEdge}
use Rattle.dimacs_format.specs.Written.{edge_words}
use Rattle.dimacs_format.proofs.Lengths.{edge_length, edge_lines_more, all_at}
use Rattle.dimacs_format.proofs.ecnf_writer.edge_bytes.Goals as goal

pub loop-i-preserved : goal.loop-i-preserved
loop-i-preserved c =
    let F = c.args.formula.now in
    let i = c.loop-i.i in
    let edge = c.index-edges-i.result in
    let width = c.digits-width.result in
    let fits : Fits F = subst Fits c.formula.view_is c.formula.invariant in
    let slice = c.as_slice-edges.result.now in
    let same : slice ≡ F.edges = subst (λ G. slice ≡ G.edges) c.formula.view_is c.as_slice-edges.ensures in
    let at : slice_get F.edges i ≡ Some edge = subst (λ xs. slice_get xs i ≡ Some edge) same (slice_get_read slice (length slice) i edge refl c.loop-i-test.true c.index-edges-i.is) in
    let enough : F.vars < 10 ^ width = subst (λ G. G.vars < 10 ^ width) c.formula.view_is c.digits-width.ensures.enough in
    let over : IsOver F.vars edge.lit = all_at (λ (e : LitEdge). IsOver F.vars e.lit) F.edges i edge fits.edges at in
    let line : length (line_of (edge_words edge)) ≤ 28 + width = edge_length width F.vars edge c.digits-width.ensures.some enough (omega (arith, fits.vars)) over c.bytes_of.ensures.nodes in
    omega (arith, line, edge_lines_more F.edges i edge at, c.bytes_of.ensures.is, c.saturating_add-most.ensures, c.loop-i.invariant)
