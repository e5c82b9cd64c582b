-- What is read of the atoms behind their heading is what the part says.
use Rattle.std.proofs.Common.{◌≡◌, ◌∙◌, Err, arith}
use Rattle.std.proofs.lemmas.Grind.{common_steps}
use Rattle.asp_scan.proofs.Appends.{on_ok-weaker, if_err-weaker}
use Rattle.smodels_format.specs.Read.{part, required_entry}
use Rattle.smodels_format.specs.private.Steps.{signed}
use Rattle.smodels_format.proofs.Parts.{refused, moved, refuses-behind}
use Rattle.smodels_format.proofs.reading.required.Goals as goal

pub returns-in_err-heading_line-clause-err : goal.returns-in_err-heading_line-clause-err
returns-in_err-heading_line-clause-err c =
    let is : c.from_residual.result ≡ Err c.in_err-heading_line.field-0.0 = grind (arith, common_steps) in
    refused _ is (λ next. c.in_err-heading_line.ensures.err (part (required_entry (signed c.args.sign)) next c.args.scan.now.last) c.args.builder.now)

pub returns-clause-ok : goal.returns-clause-ok
returns-clause-ok c =
    on_ok-weaker c.entries.result
    (λ h next. moved (λ last. part (required_entry (signed c.args.sign)) next last c.args.builder.now c.heading_line.new.scan.ahead) c.heading_line.ensures.last
    (c.in_ok-heading_line.ensures.ok (part (required_entry (signed c.args.sign)) next c.args.scan.now.last) c.args.builder.now)
    ∙ h next)
    c.entries.ensures.ok

pub returns-clause-err : goal.returns-clause-err
returns-clause-err c =
    if_err-weaker _ _ c.entries.result
    (λ refusal h next. refuses-behind refusal
    (moved (λ last. part (required_entry (signed c.args.sign)) next last c.args.builder.now c.heading_line.new.scan.ahead) c.heading_line.ensures.last
    (c.in_ok-heading_line.ensures.ok (part (required_entry (signed c.args.sign)) next c.args.scan.now.last) c.args.builder.now))
    (h next))
    c.entries.ensures.err
