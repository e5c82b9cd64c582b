-- A token is a number within the variables, one above them, or no number.
use Rattle.std.proofs.Common.{◌≡◌, ◌≤◌, ◌<◌, ap, nat_abs, to_z, of_z, w64, arith}
use Rattle.std.proofs.lemmas.Int.{to_z-of_z}
use Rattle.dimacs_format.proofs.ClauseSteps.{literal_step, shorter_left, above_vars, bad_number, no_token, number_found, no_number_found}
use Rattle.dimacs_format.proofs.Refused.{refuses-at}
use Rattle.asp_scan.specs.Scanning.{Scanning}
use Rattle.dimacs_format.specs.private.Walks.{items_left}
use Rattle.dimacs_format.proofs.clauses.next_literal.Goals as goal

pub returns-in-Ok-clause-ok : goal.returns-in-Ok-clause-ok
returns-in-Ok-clause-ok c =
    let within : nat_abs c.in-Ok.n ≤ c.args.vars = grind (arith, to_z-of_z, c.unsigned_abs.ensures.value, c.if-unsigned_abs-vars.true) in
    let passed : to_z w64 (of_z w64 c.in-Ok.n) ≡ c.in-Ok.n = grind (arith, to_z-of_z) in
    literal_step c.args.scan.now.last c.args.vars c.args.scan.now c.find_token.new.scan c.next_number.new.self c.in-Ok.n
    (number_found c.args.scan.now c.find_token.new.scan c.next_number.new.self c.if-not-find_token.ensures.same c.in-Ok.ensures.rest c.in-Ok.n c.in-Ok.ensures.ok)
    within c.literal.result _ passed c.literal.ensures.none c.literal.ensures.value

pub returns-in-Ok-clause-shorter : goal.returns-in-Ok-clause-shorter
returns-in-Ok-clause-shorter c =
    shorter_left c.args.scan.now.last c.args.vars c.args.scan.now c.find_token.new.scan c.next_number.new.self c.in-Ok.n
    (number_found c.args.scan.now c.find_token.new.scan c.next_number.new.self c.if-not-find_token.ensures.same c.in-Ok.ensures.rest c.in-Ok.n c.in-Ok.ensures.ok)
    c.if-not-find_token.ensures.same c.if-not-find_token.ensures.shorter

pub returns-in-Err-clause-err : goal.returns-in-Err-clause-err
returns-in-Err-clause-err c =
    refuses-at _ c.fault_at-in-Err.result c.find_token.new.scan.line.number _ _ c.fault_at-in-Err.ensures (ap (λ (s : Scanning). s.line.number) c.in-Err.ensures.stays)
    (bad_number c.args.scan.now.last c.args.vars c.args.scan.now c.find_token.new.scan
    (no_number_found c.args.scan.now c.find_token.new.scan c.in-Err.field-0 c.if-not-find_token.ensures.same c.if-not-find_token.ensures.found c.in-Err.ensures.err))

pub returns-then-not-find_token-clause-err : goal.returns-then-not-find_token-clause-err
returns-then-not-find_token-clause-err c =
    refuses-at _ c.fault_at.result c.args.scan.now.last _ _ c.fault_at.ensures c.if-not-find_token.ensures.end (no_token c.args.scan.now.last c.args.vars (items_left c.args.scan.now) c.if-not-find_token.ensures.none)

pub returns-in-Ok-2-clause-err : goal.returns-in-Ok-2-clause-err
returns-in-Ok-2-clause-err c =
    let above : c.args.vars < nat_abs c.in-Ok.n = grind (arith, to_z-of_z, c.unsigned_abs.ensures.value, c.if-unsigned_abs-vars.false) in
    refuses-at _ c.fault_at-in-Ok-2.result c.find_token.new.scan.line.number _ _ c.fault_at-in-Ok-2.ensures (ap (λ (s : Scanning). s.line.number) c.in-Ok.ensures.rest)
    (above_vars c.args.scan.now.last c.args.vars c.args.scan.now c.find_token.new.scan c.next_number.new.self c.in-Ok.n
    (number_found c.args.scan.now c.find_token.new.scan c.next_number.new.self c.if-not-find_token.ensures.same c.in-Ok.ensures.rest c.in-Ok.n c.in-Ok.ensures.ok) above)
