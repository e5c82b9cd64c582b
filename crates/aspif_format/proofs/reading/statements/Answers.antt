use Rattle.std.proofs.Common.{◌∙◌, Ok, sym, ap, subst}
use Rattle.asp_base.specs.Faults.{Refuses}
use Rattle.statement_fields.specs.Parts.{ended_text}
use Rattle.aspif_format.specs.private.Steps.{statement_of}
use Rattle.asp_scan.proofs.Appends.{on_ok-weaker, if_err-weaker}
use Rattle.aspif_format.proofs.StatementLines.{statements-end}
use Rattle.aspif_format.proofs.reading.statements.Goals as goal

pub returns-in-Ok-End-clause-ok : goal.returns-in-Ok-End-clause-ok
returns-in-Ok-End-clause-ok c =
    let said = c.in-Ok-End.ensures.ok ∙ ap (λ s. Ok (statement_of s c.statement.new.builder)) c.in-Ok-End.field-0-is in
    let here = statements-end c.lines.scan.last c.lines.builder c.next_line.new.self.line c.lines.scan.ahead c.next_line.new.self.ahead _ c.lines-test.ensures.more.0 c.lines-test.ensures.more.1 said in
    let whole = sym c.lines.invariant.same ∙ here ∙ ap (λ s. ended_text c.lines.builder s.ahead) (sym c.statement.ensures.rest) in
    on_ok-weaker c.ended_text.result (λ h. whole ∙ h c.lines.builder ∙ ap Ok (sym (c.in-Ok-End.ensures.end c.in-Ok-End.field-0-is))) c.ended_text.ensures.ok

pub returns-in-Ok-End-clause-err : goal.returns-in-Ok-End-clause-err
returns-in-Ok-End-clause-err c =
    let said = c.in-Ok-End.ensures.ok ∙ ap (λ s. Ok (statement_of s c.statement.new.builder)) c.in-Ok-End.field-0-is in
    let here = statements-end c.lines.scan.last c.lines.builder c.next_line.new.self.line c.lines.scan.ahead c.next_line.new.self.ahead _ c.lines-test.ensures.more.0 c.lines-test.ensures.more.1 said in
    let whole = sym c.lines.invariant.same ∙ here ∙ ap (λ s. ended_text c.lines.builder s.ahead) (sym c.statement.ensures.rest) in
    if_err-weaker _ _ c.ended_text.result (λ refusal h. subst (λ read. Refuses read refusal) (sym whole) (h c.lines.builder)) c.ended_text.ensures.err
