use Rattle.std.proofs.Common.{rules, ◌≡◌, ◌∙◌, sym, ap, subst, Err}
use Rattle.asp_scan.specs.Lines.{lines_of, end_line}
use Rattle.asp_scan.specs.Scanning.{Scanning}
use Rattle.back_map.specs.Read.{heard_from, silence}
use Rattle.back_map.specs.private.Reading.{HearsOk}
use Rattle.back_map.proofs.AnswerSteps.{faulty, answered, refused}
use Rattle.back_map.proofs.read_answer_text.read_answer.Goals as goal

pub returns-in-Err-clause-fault : goal.returns-in-Err-clause-fault
returns-in-Err-clause-fault c =
    let ahead : c.new-scan.result.ahead ≡ lines_of c.args.text.now = ap (λ (s : Scanning). s.ahead) c.new-scan.ensures in
    faulty c.args.text.now c.args.vars (record { line = c.line.result; kind = c.in-Err.kind })
    (ap (λ lines. heard_from c.args.vars lines silence) (sym ahead)
    ∙ c.in-Err.ensures.err c.args.vars silence c.in_ok-hearing.ensures
    ∙ ap (λ n. Err (record { line = n; kind = c.in-Err.kind })) (sym c.line.ensures.line))

pub returns-clause-answer : goal.returns-clause-answer
returns-clause-answer c =
    let last : c.line-2.result ≡ end_line c.args.text.now = search rules in
    let ahead : c.new-scan.result.ahead ≡ lines_of c.args.text.now = ap (λ (s : Scanning). s.ahead) c.new-scan.ensures in
    answered c.args.text.now c.args.vars c.line-2.result c.hear.new.hearing last
    (subst (λ lines. HearsOk c.args.vars (heard_from c.args.vars lines silence) c.hear.new.hearing) ahead (c.in_default.ensures.ok c.args.vars silence c.in_ok-hearing.ensures))
    c.answer.result c.answer.ensures.ok

pub returns-clause-fault : goal.returns-clause-fault
returns-clause-fault c =
    let last : c.line-2.result ≡ end_line c.args.text.now = search rules in
    let ahead : c.new-scan.result.ahead ≡ lines_of c.args.text.now = ap (λ (s : Scanning). s.ahead) c.new-scan.ensures in
    refused c.args.text.now c.args.vars c.line-2.result c.hear.new.hearing last
    (subst (λ lines. HearsOk c.args.vars (heard_from c.args.vars lines silence) c.hear.new.hearing) ahead (c.in_default.ensures.ok c.args.vars silence c.in_ok-hearing.ensures))
    c.answer.result c.answer.ensures.err
