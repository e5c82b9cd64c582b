use Rattle.std.proofs.Common.{sym, ◌∙◌, ap, Some}
use Rattle.std.proofs.lemmas.List.{drop_all}
use Rattle.asp_scan.proofs.CappedDigits.{capped, capped-is, capped-blank, capped-other}
use Rattle.asp_scan.proofs.Pieces.{take-rest}
use Rattle.asp_scan.proofs.numeral.digits.Goals as goal

pub returns-then-is_blank : goal.returns-then-is_blank
returns-then-is_blank c =
    sym (capped-is 0 c.args.text.now) ∙ (c.loop-i.invariant
    ∙ (capped-blank c.args.text.now c.loop-i.i c.loop-i.value c.loop-i-test.true (sym c.is_digit.ensures ∙ c.if-is_digit.false) (sym c.is_blank.ensures ∙ c.if-is_blank.true)
    ∙ ap (λ rest. Some (c.loop-i.value, rest)) (sym (take-rest c.args.text.now c.loop-i.i))))

pub returns-else-is_blank : goal.returns-else-is_blank
returns-else-is_blank c =
    sym (capped-is 0 c.args.text.now) ∙ (c.loop-i.invariant
    ∙ capped-other c.args.text.now c.loop-i.i c.loop-i.value c.loop-i-test.true (sym c.is_digit.ensures ∙ c.if-is_digit.false) (sym c.is_blank.ensures ∙ c.if-is_blank.false))

pub returns : goal.returns
returns c =
    sym (capped-is 0 c.args.text.now) ∙ (c.loop-i.invariant
    ∙ ap (capped c.loop-i.value) (drop_all c.loop-i.i c.args.text.now c.loop-i-test.false))
