-- The end of the text behind the number of models.
use Rattle.std.proofs.Common.{◌∙◌, sym, ap, subst}
use Rattle.asp_base.specs.Faults.{Refuses}
use Rattle.asp_scan.proofs.Appends.{on_ok-weaker, if_err-weaker}
use Rattle.smodels_format.proofs.Parts.{models-ended}
use Rattle.smodels_format.proofs.reading.models.Goals as goal

pub returns-in-Ok-clause-ok : goal.returns-in-Ok-clause-ok
returns-in-Ok-clause-ok c =
    on_ok-weaker c.ended_text.result
    (λ h draft. models-ended draft _ _ _ _ _ c.if-not-next_line.ensures.more.0 c.if-not-next_line.ensures.more.1 (c.in-Ok.ensures.ok draft) (ap (λ s. s.ahead) c.number_of_models.ensures.rest) ∙ h draft)
    c.ended_text.ensures.ok

pub returns-in-Ok-clause-err : goal.returns-in-Ok-clause-err
returns-in-Ok-clause-err c =
    if_err-weaker _ _ c.ended_text.result
    (λ refusal h draft. subst (λ read. Refuses read refusal)
    (sym (models-ended draft _ _ _ _ _ c.if-not-next_line.ensures.more.0 c.if-not-next_line.ensures.more.1 (c.in-Ok.ensures.ok draft) (ap (λ s. s.ahead) c.number_of_models.ensures.rest)))
    (h draft))
    c.ended_text.ensures.err
