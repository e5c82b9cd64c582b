use Rattle.std.proofs.Common.{rules, refl, ◌≡◌, to_z, of_z, w64, Some, sym, ◌∙◌, arith}
use Rattle.std.proofs.lemmas.Int.{to_z-of_z}
use Rattle.std.proofs.lemmas.Result.{err_from_is_err_and}
use Rattle.asp_scan.specs.Tokens.{tokens}
use Rattle.back_map.specs.Read.{with_number, with_numbers}
use Rattle.back_map.proofs.Steps.{Reaches-start, Reaches-next, Reaches-fails, Reaches-done}
use Rattle.back_map.proofs.Numbers.{number-next, number-bad, no-number}
use Rattle.back_map.proofs.answer_line.numbers.Goals as goal

pub numbers-init : goal.numbers-init
numbers-init c = record { reached = Reaches-start (λ n. with_numbers n (tokens c.args.scan.now.left)) c.args.hearing.now; rest = refl }

pub returns-in_default-clause-err : goal.returns-in_default-clause-err
returns-in_default-clause-err c = λ n heard hears.
    let at = c.numbers.invariant.reached n heard hears in
    sym at.1.1 ∙ number-bad n c.numbers.scan.left at.0 c.in_default.field-0 c.numbers-test.ensures c.in_default.ensures.err

pub numbers-preserved : goal.numbers-preserved
numbers-preserved c =
    let number = to_z w64 (of_z w64 c.in-Ok.number) in
    let again : number ≡ c.in-Ok.number = grind (arith, to_z-of_z) in
    record {
      reached = Reaches-next (λ r. r) (λ kind. kind) (λ h. refl) (λ kind. refl) (λ n. with_numbers n (tokens c.args.scan.now.left)) (λ n. with_numbers n (tokens c.numbers.scan.left))
          (λ n. with_numbers n (tokens c.next_number.new.self.left)) (λ n. with_number n (Some number)) c.args.hearing.now c.numbers.hearing c.numbers.invariant.reached
          (λ n h. number-next n c.numbers.scan.left h c.next_number.new.self.left c.in-Ok.number number c.in-Ok.ensures.ok again) c.hear_number.new.self c.in_ok-hear_number.ensures.ok;
      rest = search rules;
    }

pub returns-in_err-hear_number-clause-err : goal.returns-in_err-hear_number-clause-err
returns-in_err-hear_number-clause-err c =
    let number = to_z w64 (of_z w64 c.in-Ok.number) in
    let again : number ≡ c.in-Ok.number = grind (arith, to_z-of_z) in
    let p = err_from_is_err_and c.from_residual.result c.from_residual.ensures.1 in
    rw (p.1, p.2)
    (Reaches-fails (λ r. r) (λ kind. kind) (λ h. refl) (λ kind. refl) (λ n. with_numbers n (tokens c.args.scan.now.left)) (λ n. with_numbers n (tokens c.numbers.scan.left))
    (λ n. with_numbers n (tokens c.next_number.new.self.left)) (λ n. with_number n (Some number)) c.args.hearing.now c.numbers.hearing c.numbers.invariant.reached
    (λ n h. number-next n c.numbers.scan.left h c.next_number.new.self.left c.in-Ok.number number c.in-Ok.ensures.ok again) _ c.in_err-hear_number.ensures.err)

pub returns-clause-ok : goal.returns-clause-ok
returns-clause-ok c =
    Reaches-done (λ n. with_numbers n (tokens c.args.scan.now.left)) (λ n. with_numbers n (tokens c.numbers.scan.left)) c.args.hearing.now c.numbers.hearing
    c.numbers.invariant.reached (λ n h. no-number n c.numbers.scan.left h c.numbers-test.ensures)
