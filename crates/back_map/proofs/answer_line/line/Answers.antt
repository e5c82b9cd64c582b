use Rattle.std.proofs.Common.{◌≡◌, sym, to_z, of_z, w64, arith}
use Rattle.std.proofs.lemmas.Int.{to_z-of_z}
use Rattle.asp_scan.specs.Tokens.{tokens}
use Rattle.back_map.specs.Read.{with_line}
use Rattle.back_map.specs.private.Reading.{with_bare}
use Rattle.back_map.proofs.LineSteps.{line-number}
use Rattle.back_map.proofs.Steps.{ok-as, err-as}
use Rattle.back_map.proofs.answer_line.line.Goals as goal

pub returns-in-Ok-clause-ok : goal.returns-in-Ok-clause-ok
returns-in-Ok-clause-ok c =
    let first = to_z w64 (of_z w64 c.in-Ok.first) in
    let again : first ≡ c.in-Ok.first = grind (arith, to_z-of_z) in
    ok-as (λ n. with_line n c.args.scan.now.line) (with_bare first (tokens c.next_number.new.self.left)) c.args.hearing.now c.bare_numbers.new.hearing c.bare_numbers.result
    (line-number c.args.scan.now.line c.next_number.new.self.left c.in-Ok.first first c.args.hearing.now (sym c.if-begins_with.ensures) (rw (← c.requires.front) c.in-Ok.ensures.ok) again)
    c.bare_numbers.ensures.ok

pub returns-in-Ok-clause-err : goal.returns-in-Ok-clause-err
returns-in-Ok-clause-err c =
    let first = to_z w64 (of_z w64 c.in-Ok.first) in
    let again : first ≡ c.in-Ok.first = grind (arith, to_z-of_z) in
    err-as (λ n. with_line n c.args.scan.now.line) (with_bare first (tokens c.next_number.new.self.left)) c.args.hearing.now c.bare_numbers.result
    (line-number c.args.scan.now.line c.next_number.new.self.left c.in-Ok.first first c.args.hearing.now (sym c.if-begins_with.ensures) (rw (← c.requires.front) c.in-Ok.ensures.ok) again)
    c.bare_numbers.ensures.err
