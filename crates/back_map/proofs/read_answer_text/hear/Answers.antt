use Rattle.std.proofs.Common.{rules, ap, refl}
use Rattle.std.proofs.lemmas.Result.{err_from_is_err_and}
use Rattle.asp_base.specs.Faults.{at_line}
use Rattle.asp_scan.specs.Scanning.{Scanning}
use Rattle.back_map.specs.Read.{with_line, heard_from}
use Rattle.back_map.proofs.Steps.{Reaches-next, Reaches-fails, Reaches-done}
use Rattle.back_map.proofs.TextSteps.{heard-next, heard-none}
use Rattle.back_map.proofs.read_answer_text.hear.Goals as goal

pub lines-preserved : goal.lines-preserved
lines-preserved c =
    let line = c.next_line.new.self.line in
    record {
      reached = Reaches-next (at_line line.number) (λ kind. record { line = line.number; kind = kind }) (λ h. refl) (λ kind. refl) (λ n. heard_from n c.args.scan.now.ahead) (λ n. heard_from n c.lines.scan.ahead)
          (λ n. heard_from n c.line.new.scan.ahead) (λ n. with_line n line) c.args.hearing.now c.lines.hearing c.lines.invariant.reached
          (λ n h. heard-next n c.lines.scan.ahead c.line.new.scan.ahead c.next_line.new.self.ahead line c.lines-test.ensures.more.0 (ap (λ (s : Scanning). s.ahead) c.in_ok-line.ensures.rest) h)
          c.line.new.hearing c.in_ok-line.ensures.ok;
      last = search rules;
    }

pub returns-in_err-line-clause-err : goal.returns-in_err-line-clause-err
returns-in_err-line-clause-err c =
    let line = c.next_line.new.self.line in
    let p = err_from_is_err_and c.from_residual.result c.from_residual.ensures.1 in
    let same = ap (λ (s : Scanning). s.line.number) c.in_err-line.ensures.rest in
    rw (p.1, p.2, same)
    (Reaches-fails (at_line line.number) (λ kind. record { line = line.number; kind = kind }) (λ h. refl) (λ kind. refl) (λ n. heard_from n c.args.scan.now.ahead) (λ n. heard_from n c.lines.scan.ahead)
    (λ n. heard_from n c.line.new.scan.ahead) (λ n. with_line n line) c.args.hearing.now c.lines.hearing c.lines.invariant.reached
    (λ n h. heard-next n c.lines.scan.ahead c.line.new.scan.ahead c.next_line.new.self.ahead line c.lines-test.ensures.more.0 (ap (λ (s : Scanning). s.ahead) c.in_err-line.ensures.rest) h)
    _ c.in_err-line.ensures.err)

pub returns-clause-ok : goal.returns-clause-ok
returns-clause-ok c =
    Reaches-done (λ n. heard_from n c.args.scan.now.ahead) (λ n. heard_from n c.lines.scan.ahead) c.args.hearing.now c.lines.hearing c.lines.invariant.reached
    (λ n h. heard-none n c.lines.scan.ahead c.lines-test.ensures.none h)
