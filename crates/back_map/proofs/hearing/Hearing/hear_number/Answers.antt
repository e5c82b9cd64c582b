use Rattle.std.proofs.Common.{◌≡◌, ◌∙◌, sym, Some, ap, of_z, to_z, w64, arith}
use Rattle.std.proofs.lemmas.Int.{to_z-of_z}
use Rattle.back_map.specs.Read.{with_literal, with_number}
use Rattle.back_map.specs.private.Kept.{Kept}
use Rattle.back_map.proofs.Steps.{ok-as, err-as, number-same}
use Rattle.back_map.proofs.hearing.Hearing.hear_number.Goals as goal

pub returns-clause-ok : goal.returns-clause-ok
returns-clause-ok c =
    let again : to_z w64 (of_z w64 c.args.number) ≡ c.args.number = grind (arith, to_z-of_z) in
    ok-as (λ n. with_number n (Some c.args.number)) (λ n. with_literal n (to_z w64 (of_z w64 c.args.number))) c.args.self.now c.hear_literal.new.self c.hear_literal.result
    (number-same c.args.number (to_z w64 (of_z w64 c.args.number)) c.args.self.now again (sym (ap (λ (k : Kept). k.ended) c.self.view_is) ∙ c.if-self.false) (λ e. c.if-number-eq0.false (ap (of_z w64) e))) c.hear_literal.ensures.ok

pub returns-clause-err : goal.returns-clause-err
returns-clause-err c =
    let again : to_z w64 (of_z w64 c.args.number) ≡ c.args.number = grind (arith, to_z-of_z) in
    err-as (λ n. with_number n (Some c.args.number)) (λ n. with_literal n (to_z w64 (of_z w64 c.args.number))) c.args.self.now c.hear_literal.result
    (number-same c.args.number (to_z w64 (of_z w64 c.args.number)) c.args.self.now again (sym (ap (λ (k : Kept). k.ended) c.self.view_is) ∙ c.if-self.false) (λ e. c.if-number-eq0.false (ap (of_z w64) e))) c.hear_literal.ensures.err
