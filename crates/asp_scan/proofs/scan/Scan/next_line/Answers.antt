use Rattle.std.proofs.Common.{sym, ◌∙◌, ap, refl, suc, arith}
use Rattle.asp_scan.specs.Lines.{numbered, pieces_of}
use Rattle.asp_scan.proofs.Steps.{numbered-blank, numbered-line, last-same, next-is}
use Rattle.asp_scan.proofs.scan.Scan.next_line.Goals as goal

pub loop-piece-preserved : goal.loop-piece-preserved
loop-piece-preserved c = record {
  ahead = sym (numbered-blank c.loop-piece.self-inside.number c.in-Some.piece.now c.without_return-line.result.now c.skip_blanks.result.now (pieces_of c.in-Some.rest.now) c.without_return-line.ensures c.skip_blanks.ensures (sym c.is_empty.ensures ∙ c.if-not-is_empty.false))
      ∙ (sym (ap (numbered (suc c.loop-piece.self-inside.number)) c.in-Some.ensures.line) ∙ c.loop-piece.invariant.ahead);
  last = last-same _ _ _ _ _ c.in-Some.ensures.line c.loop-piece.invariant.last;
  fits = omega (arith, c.in-Some.ensures.shorter);
}

pub returns-then-not-is_empty-clause-more : goal.returns-then-not-is_empty-clause-more
returns-then-not-is_empty-clause-more c = (
  sym c.loop-piece.invariant.ahead ∙ (ap (numbered (suc c.loop-piece.self-inside.number)) c.in-Some.ensures.line
      ∙ numbered-line c.loop-piece.self-inside.number c.in-Some.piece.now c.without_return-line.result.now c.skip_blanks.result.now (pieces_of c.in-Some.rest.now) c.without_return-line.ensures c.skip_blanks.ensures (sym c.is_empty.ensures ∙ c.if-not-is_empty.true)),
  refl,
)

pub returns-then-not-is_empty-clause-next : goal.returns-then-not-is_empty-clause-next
returns-then-not-is_empty-clause-next c = next-is c.args.self.now _ _ _ (returns-then-not-is_empty-clause-more c).0 (last-same _ _ _ _ _ c.in-Some.ensures.line c.loop-piece.invariant.last)
