use Rattle.std.proofs.Common.{rules, ◌≡◌, to_z, of_z, w64, true, arith}
use Rattle.std.proofs.lemmas.Int.{to_z-of_z}
use Rattle.std.proofs.lemmas.Result.{err_from_is_err_and}
use Rattle.asp_scan.specs.Tokens.{tokens}
use Rattle.back_map.proofs.LineSteps.{bare-fails, bare-ok, bare-err}
use Rattle.back_map.proofs.answer_line.bare_numbers.Goals as goal

pub returns-in_err-hear_number-clause-err : goal.returns-in_err-hear_number-clause-err
returns-in_err-hear_number-clause-err c =
    let again : to_z w64 (of_z w64 c.args.first) ≡ c.args.first = grind (arith, to_z-of_z) in
    let bare : c.args.hearing.now.bare ≡ true = search rules in
    let p = err_from_is_err_and c.from_residual.result c.from_residual.ensures.1 in
    rw (p.1, p.2) (bare-fails c.args.first (to_z w64 (of_z w64 c.args.first)) again (tokens c.args.scan.now.left) c.args.hearing.now c.hear_number.new.self bare _ c.in_err-hear_number.ensures.err)

pub returns-clause-ok : goal.returns-clause-ok
returns-clause-ok c =
    let again : to_z w64 (of_z w64 c.args.first) ≡ c.args.first = grind (arith, to_z-of_z) in
    let bare : c.args.hearing.now.bare ≡ true = search rules in
    bare-ok c.args.first (to_z w64 (of_z w64 c.args.first)) again (tokens c.args.scan.now.left) c.args.hearing.now c.hear_number.new.self bare c.numbers.new.hearing c.numbers.result
    c.in_ok-hear_number.ensures.ok c.numbers.ensures.ok

pub returns-clause-err : goal.returns-clause-err
returns-clause-err c =
    let again : to_z w64 (of_z w64 c.args.first) ≡ c.args.first = grind (arith, to_z-of_z) in
    let bare : c.args.hearing.now.bare ≡ true = search rules in
    bare-err c.args.first (to_z w64 (of_z w64 c.args.first)) again (tokens c.args.scan.now.left) c.args.hearing.now c.hear_number.new.self bare c.numbers.result
    c.in_ok-hear_number.ensures.ok c.numbers.ensures.err
