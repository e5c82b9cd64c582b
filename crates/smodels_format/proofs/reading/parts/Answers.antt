-- Each part says what the text says behind the parts before it.
use Rattle.std.proofs.Common.{rules, ◌∙◌}
use Rattle.asp_scan.proofs.Appends.{on_ok-weaker, if_err-weaker}
use Rattle.smodels_format.specs.Read.{symbol_part, positive_part, negative_part, models}
use Rattle.smodels_format.proofs.Parts.{moved, refuses-behind}
use Rattle.smodels_format.proofs.reading.parts.Goals as goal

pub returns-in_err-rules-clause-err : goal.returns-in_err-rules-clause-err
returns-in_err-rules-clause-err c =
    let e = c.in_err-rules.ensures.err (symbol_part c.args.scan.now.last) in
    search rules

pub returns-in_err-entries-clause-err : goal.returns-in_err-entries-clause-err
returns-in_err-entries-clause-err c =
    let symbols = moved (λ last. symbol_part last c.rules.new.builder c.rules.new.scan.ahead) c.rules.ensures.last (c.in_ok-rules.ensures.ok (symbol_part c.args.scan.now.last)) in
    let e = refuses-behind _ symbols (c.in_err-entries.ensures.err (positive_part c.rules.new.scan.last)) in
    search rules

pub returns-in_err-required-clause-err : goal.returns-in_err-required-clause-err
returns-in_err-required-clause-err c =
    let symbols = moved (λ last. symbol_part last c.rules.new.builder c.rules.new.scan.ahead) c.rules.ensures.last (c.in_ok-rules.ensures.ok (symbol_part c.args.scan.now.last)) in
    let positive = moved (λ last. positive_part last c.entries.new.builder c.entries.new.scan.ahead) c.entries.ensures.last (c.in_ok-entries.ensures.ok (positive_part c.rules.new.scan.last)) in
    let e = refuses-behind _ (symbols ∙ positive) (c.in_err-required.ensures.err (negative_part c.entries.new.scan.last)) in
    search rules

pub returns-in_err-required-2-clause-err : goal.returns-in_err-required-2-clause-err
returns-in_err-required-2-clause-err c =
    let symbols = moved (λ last. symbol_part last c.rules.new.builder c.rules.new.scan.ahead) c.rules.ensures.last (c.in_ok-rules.ensures.ok (symbol_part c.args.scan.now.last)) in
    let positive = moved (λ last. positive_part last c.entries.new.builder c.entries.new.scan.ahead) c.entries.ensures.last (c.in_ok-entries.ensures.ok (positive_part c.rules.new.scan.last)) in
    let negative = moved (λ last. negative_part last c.required.new.builder c.required.new.scan.ahead) c.required.ensures.last (c.in_ok-required.ensures.ok (negative_part c.entries.new.scan.last)) in
    let e = refuses-behind _ (symbols ∙ positive ∙ negative) (c.in_err-required-2.ensures.err models) in
    search rules

pub returns-clause-ok : goal.returns-clause-ok
returns-clause-ok c =
    let symbols = moved (λ last. symbol_part last c.rules.new.builder c.rules.new.scan.ahead) c.rules.ensures.last (c.in_ok-rules.ensures.ok (symbol_part c.args.scan.now.last)) in
    let positive = moved (λ last. positive_part last c.entries.new.builder c.entries.new.scan.ahead) c.entries.ensures.last (c.in_ok-entries.ensures.ok (positive_part c.rules.new.scan.last)) in
    let negative = moved (λ last. negative_part last c.required.new.builder c.required.new.scan.ahead) c.required.ensures.last (c.in_ok-required.ensures.ok (negative_part c.entries.new.scan.last)) in
    on_ok-weaker c.models.result (λ h. symbols ∙ positive ∙ negative ∙ c.in_ok-required-2.ensures.ok models ∙ h c.required-2.new.builder) c.models.ensures.ok

pub returns-clause-err : goal.returns-clause-err
returns-clause-err c =
    let symbols = moved (λ last. symbol_part last c.rules.new.builder c.rules.new.scan.ahead) c.rules.ensures.last (c.in_ok-rules.ensures.ok (symbol_part c.args.scan.now.last)) in
    let positive = moved (λ last. positive_part last c.entries.new.builder c.entries.new.scan.ahead) c.entries.ensures.last (c.in_ok-entries.ensures.ok (positive_part c.rules.new.scan.last)) in
    let negative = moved (λ last. negative_part last c.required.new.builder c.required.new.scan.ahead) c.required.ensures.last (c.in_ok-required.ensures.ok (negative_part c.entries.new.scan.last)) in
    if_err-weaker _ _ c.models.result
    (λ refusal h. refuses-behind refusal (symbols ∙ positive ∙ negative ∙ c.in_ok-required-2.ensures.ok models) (h c.required-2.new.builder))
    c.models.ensures.err
